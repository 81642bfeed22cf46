-- Each key of an accepted hive is listed, once.
use mathlib.Core.Path.{◌∙◌}
use Rattle.base.specs.Block.{bins_data}
use Rattle.tree.specs.Tree.{levels, hive_of}
use Rattle.tree.proofs.Exactly.{report-counts}
use Rattle.tree.proofs.Once.{each-once}
use Rattle.paths.specs.Reach.{joined_by}
use Rattle.paths.proofs.Each.{every-key, same_names, same_key, at_level, few-names}
use Rattle.paths.proofs.Listed.{listed_found}
use Rattle.paths.proofs.Quick.{quick-same}
use Rattle.demands.specs.Listing.{Listing}

pub each-key-once : Listing
each-key-once h w =
    record {
      every = every-key h w;
      once = each-once (bins_data h) (hive_of h) levels w.formed.tree;
      counted = λ m r e. (report-counts h m e).0;
      found = listed_found h w;
      found-quick = λ b k f. quick-same h b w (joined_by f.names) ∙ f.found;
      one-path = same_names h w;
      one_way = same_key h w;
      level = at_level h w;
      levels = few-names h w;
    }
