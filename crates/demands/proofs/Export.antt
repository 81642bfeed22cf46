-- What an export gives of every accepted hive.
use Prim.Native.Nat.{ℕ, ◌+◌, ◌*◌}
use mathlib.Core.Path.{sym, ap₂, ◌∙◌}
use lib.ListN.{length, get_or}
use borrow.Author.Tests.{le-leb, lt-leb}
use Rattle.tree.proofs.Exactly.{report-counts}
use Rattle.stream.specs.Stream.{frames_of}
use Rattle.stream.proofs.Whole.{frames-joined, frames-listed, stream-balanced}
use Rattle.export.specs.Answers.{no_frame, step_from, step_answer, step_out}
use Rattle.export.proofs.Exports.{accepted-formed, run-law}
use Rattle.demands.specs.Export.{Exporting}

pub exporting : Exporting
unfolding step_from step_answer step_out
exporting h m r e =
    let w = accepted-formed h m e in
    let c = report-counts h m e in
    record {
      joined = frames-joined h;
      opened = (frames-listed h).0;
      counted = (frames-listed h).1 ∙ sym (ap₂ (λ (i j : ℕ). 2 * i + j) c.0 c.1);
      written = λ n out p q.
          let b = (get_or (frames_of h) n no_frame).bytes in
          let x = lt-leb (length (frames_of h)) n p in
          let y = le-leb (length b) (length out) q in
          (rw (e, x, y), rw (e, x, y));
      waits = λ n out p q.
          let b = (get_or (frames_of h) n no_frame).bytes in
          let x = lt-leb (length (frames_of h)) n p in
          let y = lt-leb (length b) (length out) q in
          (rw (e, x, y), rw (e, x, y));
      ends = λ n out p. let x = le-leb (length (frames_of h)) n p in (rw (e, x), rw (e, x));
      runs = run-law h w m;
      balanced = stream-balanced h w;
    }
