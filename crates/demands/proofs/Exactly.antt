-- Demand 2 is met.
use Rattle.tree.proofs.Exactly.{accepted-exactly, report-adds, report-sums, report-counts}
use Rattle.tree.proofs.Once.{each-once}
use Rattle.search.specs.declared.How.TheVariants.{InTurn}
use Rattle.paths.proofs.Exact.{find-malformed, find-exactly, find_none, find-refuses}
use Rattle.paths.proofs.Listed.{listed_found}
use Rattle.paths.proofs.Quick.{quick-same, quick-called}
use Rattle.lookup.proofs.In_accepted.{info-first, info-none, only-named, viewed, segments-unviewed, copy-says, copy-20, copied}
use Rattle.lookup.proofs.Answered.{view-info-same}
use Rattle.lookup.proofs.Agree.{view-is}
use Rattle.lookup.proofs.Quick.{info-same, view-same, start-same, bytes_same, copy-same, out-same}
use Rattle.recovery.proofs.Accepts.{accepted-exactly as log-exactly}
use Rattle.recovery.proofs.Repair.{repaired}
use Rattle.recovery.proofs.AtOnce.{at_once}
use lib.ListN.{length}
use Rattle.base.specs.Block.{bins_data}
use Rattle.tree.specs.Tree.{levels, hive_of}
use Rattle.demands.specs.Exactly.{Demand2}

pub demand2 : Demand2
demand2 =
    record {
      accepted = λ h m room. accepted-exactly h m room;
      counts = λ h m r e. report-counts h m e;
      once = λ h w. each-once (bins_data h) (hive_of h) levels w.formed.tree;
      sums = λ h m r e b. report-sums h m e b;
      adds = λ h m r e. report-adds h m e;
      finds = λ h w us o. find-exactly h w us o;
      refuses = λ h w us. find-refuses h w us;
      malformed = λ h w us p. find-malformed h w us p;
      none = λ h w us p f. find_none h w us p f;
      listed = λ h w k i. listed_found h w k i;
      value = λ h w us o e x v f.
          record {
            info = info-first h w us o e x f;
            done = copy-says h w us o e x v f;
            written = copied h w us o e x v f;
            short = copy-20 h w us o e x v f;
            viewed = viewed h w us o e x v f;
            unviewed = segments-unviewed h w us o e x v f;
          };
      view = λ h us x i e. (view-info-same InTurn h us x e, view-is InTurn h us x e);
      no_value = λ h w us o e x f. info-none h w us o e x f;
      only-named = λ h w us o e x. only-named h w us o e x;
      quick-same = quick-same;
      quick-values = λ h b w us x.
          record {
            info = info-same h b w us x;
            view = view-same h b w us x;
            part = (bytes_same h b w us x, start-same h b w us x);
            copy = λ out. (copy-same h b w us x (length out), out-same h b w us x out);
          };
      quick-called = λ h us o e. quick-called h us e;
      log-accepted = λ h l. log-exactly h l;
      repairs = λ h l n e ps c. repaired h l n e ps c;
      at_once = λ h l n e. at_once h l n e;
    }
