use Rattle.build_write.proofs.Leaves.{element-more}
use Rattle.build_write.proofs.put_element.Goals as goal

pub returns : goal.returns
returns c =
    λ x vs b k. element-more _ _ _ _ _ _ _ (c.key_hash-hash.ensures x vs b k) (c.key_end-end.ensures x vs b k)
    c.put_u32.ensures c.put_u32-2.ensures c.requires.0
