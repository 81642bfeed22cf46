-- Demand 3 is met.
use Prim.Native.Nat.{ℕ}
use mathlib.Core.Path.{◌≡◌, refl, ap}
use mathlib.Core.List.{List, []}
use lib.ListN.{length}
use Rattle.fields.specs.declared.Flaw.{Flaw}
use Rattle.fields.specs.declared.Offset.{Offset}
use Rattle.fields.specs.Faults.{no_key, refusal_of}
use Rattle.fields.proofs.Firsts.{stop}
use Rattle.base.specs.Block.{base_fault}
use Rattle.sectors.specs.Sector.{Bytes}
use Rattle.cells.proofs.Fronts.{front-base, survey-front}
use Rattle.tree.proofs.Roots.{check-refused}
use Rattle.search.specs.declared.How.{How}
use Rattle.search.specs.declared.How.TheVariants.{InTurn, Halving}
use Rattle.paths.specs.declared.Way.TheVariants as way
use Rattle.paths.specs.Answers.{key_look_by, key_found, find_by}
use Rattle.paths.specs.Children.{is_step, child_by}
use Rattle.paths.proofs.Opens.{ask-base, open-base, look_stop}
use Rattle.paths.proofs.StepTests.{child-stop}
use Rattle.lookup.specs.declared.Spot.TheVariants as spot
use Rattle.lookup.specs.Answers.{value_look_by, info_by, view_by, view_bytes_by, copy_by}
use Rattle.lookup.specs.Spots.{spotted as told, spot_answer}
use Rattle.lookup.proofs.Agree.{refused-untouched}
use Rattle.lookup.proofs.Spots.{spot-stop}
use Rattle.listing.specs.Members.{subkey_answer, value_answer, info_at, copy_at, facts_answer}
use Rattle.listing.specs.Pieces.{class_answer, security_answer}
use Rattle.listing.proofs.Pieces.{given-base, class-stop, security-stop}
use Rattle.listing.proofs.Any.{copy-stays}
use Rattle.recovery.specs.declared.Started.TheVariants as started
use Rattle.recovery.specs.Calls.{start_answer}
use Rattle.crash.proofs.Demand3.{until, running, finishes, may-seal, landed}
use Rattle.crash.proofs.Barrier.{barrier}
use Rattle.walk.proofs.Ways.{begin-stop, step-stop}
use Rattle.export.proofs.Refusals.{step-unread, begin-unread, run-unread}
use Rattle.remnants.proofs.Refusals.{base-stops, next-stops, rows-stop}
use Rattle.demands.specs.PowerCuts.{Unread, Demand3}
use Rattle.std.specs.Prelude.{Err, Ok}

-- ---- a file that the tests 1 to 7 refuse is refused by every call of the reader

module _ (d : List ℕ) (f : Flaw) (e : base_fault d ≡ Err f) where
  key-look : (how : How) (us : List ℕ) → key_look_by how d us ≡ Err (refusal_of no_key f)
  key-look how us = look_stop how d us (open-base d us e)

  value-look : (how : How) (us x : List ℕ) → value_look_by how d us x ≡ Err (refusal_of no_key f)
  unfolding value_look_by
  value-look how us x = rw (key-look how us)

  find : (how : How) (us : List ℕ) → find_by how d us ≡ Err (refusal_of no_key f)
  unfolding find_by
  find how us = rw (key-look how us)

  info : (how : How) (us x : List ℕ) → info_by how d us x ≡ Err (refusal_of no_key f)
  unfolding info_by
  info how us x = rw (value-look how us x)

  view : (how : How) (us x : List ℕ) → view_by how d us x ≡ Err (refusal_of no_key f)
  unfolding view_by
  view how us x = rw (value-look how us x)

  no-view : (how : How) (us x : List ℕ) → view_bytes_by how d us x ≡ []
  unfolding view_bytes_by
  no-view how us x = rw (view how us x)

  copy : (how : How) (us x out : List ℕ) → copy_by how d us x (length out) ≡ Err (refusal_of no_key f)
  unfolding copy_by
  copy how us x out = rw (info how us x)

  child : (how : How) (o : Offset) (x : List ℕ) → child_by how d o x ≡ Err (refusal_of no_key f)
  unfolding child_by
  child how o x = ap key_found (child-stop how d o x (ask-base d (is_step x) e))

  value_of : (o : Offset) (x : List ℕ) → spot_answer d o x ≡ Err (refusal_of no_key f)
  unfolding spot_answer
  value_of o x = ap told (spot-stop d o x e)

  subkey : (o : Offset) (i : ℕ) → subkey_answer d o i ≡ Err (refusal_of no_key f)
  unfolding subkey_answer
  subkey o i = rw e

  nth-value : (o : Offset) (i : ℕ) → value_answer d o i ≡ Err (refusal_of no_key f)
  unfolding value_answer
  nth-value o i = rw e

  at : (v : Offset) → info_at d v ≡ Err (refusal_of no_key f)
  unfolding info_at
  at v = rw (stop (base_fault d) _ e)

  copy-at : (v : Offset) (out : List ℕ) → copy_at d v (length out) ≡ Err (refusal_of no_key f)
  unfolding copy_at
  copy-at v out = rw (at v)

  key-facts : (o : Offset) → facts_answer d o ≡ Err (refusal_of no_key f)
  unfolding facts_answer
  key-facts o = rw (stop (base_fault d) _ e)

  key-class : (o : Offset) → class_answer d o ≡ Err (refusal_of no_key f)
  key-class o = class-stop d o (given-base d o e)

  key-security : (o : Offset) → security_answer d o ≡ Err (refusal_of no_key f)
  key-security o = security-stop d o (given-base d o e)

  unread : Unread d (refusal_of no_key f)
  unread =
      record {
        check = λ map. let s = survey-front d map (front-base d (length map) e) in (check-refused d map s.0 refl, s.1);
        find-key = find InTurn;
        value-info = info InTurn;
        view-info = view InTurn;
        value-view = no-view InTurn;
        value-copy = λ us x out. (copy InTurn us x out, refused-untouched InTurn d us x out (copy InTurn us x out));
        quick-key = find Halving;
        quick-info = info Halving;
        quick-view-info = view Halving;
        quick-view = no-view Halving;
        quick-copy = λ us x out. (copy Halving us x out, refused-untouched Halving d us x out (copy Halving us x out));
        child-of = child InTurn;
        quick-child-of = child Halving;
        value_of = value_of;
        nth-subkey = subkey;
        nth-value = nth-value;
        info-at = at;
        copy-at = λ v out. (copy-at v out, copy-stays d v out (copy-at v out));
        key-facts = key-facts;
        key-class = key-class;
        key-security = key-security;
        walk-begin = λ ws. begin-stop d ws e;
        walk_step = λ ws i. step-stop d ws i e;
        export-step = λ m i out. let s = survey-front d m (front-base d (length m) e) in step-unread d m (check-refused d m s.0 refl) i out;
        export-begin = λ m ws. let s = survey-front d m (front-base d (length m) e) in begin-unread d m (check-refused d m s.0 refl) ws;
        export-run = λ ws c out. run-unread d ws c out e;
        next-remnant = next-stops d (base-stops d e);
        remnants = rows-stop d (base-stops d e);
      }

pub demand3 : (h l : List ℕ) (n : ℕ) → start_answer h l ≡ Ok (started.Pages n) → Bytes l → Demand3 h l n
demand3 h l n ok b =
    record {
      until = λ c m q k d o. until h l n ok b o;
      unread = λ c m q k d o. let r = (until h l n ok b o).refused in (refusal_of no_key r.0, unread d r.0 r.1);
      running = λ m q d o. running h l n ok b o;
      finishes = λ e c m q k d o ps g. finishes h l n ok b o ps g;
      barrier = λ e m q k d o own a. barrier h l n ok b o own a;
      may-seal = λ m q k d o a. may-seal h l n ok b o a;
      landed = λ c m q k d o. landed h l n ok b o;
    }
