-- The frames still to come, told by the words and the cursor; the walk's events with the values put in. d is the bins data, minor the hive's minor version,
-- ws the words.
use Rattle.std.specs.Prelude.{ℕ, zero, suc, List, [], ◌∷◌, ◌++◌, drop, Err, None, Ok, Option, Result, Some}
use Rattle.walk.specs.declared.Walked.TheVariants as walked
use Rattle.walk.specs.Answers.{key_at}
use Rattle.walk.specs.Events.{coming}
use Rattle.stream.specs.Stream.{Framed, own_frames, closes}
use Rattle.fields.specs.declared.Refusal.{Refusal}
use Rattle.walk.specs.declared.Walked.{Walked}

-- "From then on the export reads its keys from this listing": a key that opens, with its values; a key that closes
unfoldable pub filled : List ℕ → ℕ → List (Result (Option Walked) Refusal) → List Framed
filled d minor [] = []
filled d minor (Ok (Some (walked.Opens e)) ∷ xs) = own_frames d minor e.at ++ filled d minor xs
filled d minor (Ok (Some (walked.Closes k)) ∷ xs) = closes k ∷ filled d minor xs
filled d minor ((Ok None) ∷ xs) = filled d minor xs
filled d minor (Err r ∷ xs) = filled d minor xs

-- of the top key what is left from the due number on, and then what the walk has to come
unfoldable pub coming_frames : List ℕ → ℕ → List ℕ → ℕ → ℕ → List Framed
coming_frames d minor ws zero due = []
coming_frames d minor ws (suc n) due = drop due (own_frames d minor (key_at ws (suc n))) ++ filled d minor (coming d ws (suc n))
