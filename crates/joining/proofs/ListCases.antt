-- The answer of `list_best`, case by case, from facts about the traces and the room. Assumes nothing.
use Rattle.std.specs.Prelude.{Err}
use Rattle.joining.specs.Listing.{Ran, run_of}
use mathlib.Core.Path.{◌≡◌, refl}
use mathlib.Core.Logic.{inl, inr}
use mathlib.Core.List.{List, ◌++◌}
use mathlib.Core.Bool.{Bool}
use Prim.Native.Nat.{ℕ, ◌*◌}
use lib.IntN.{ℤ}
use lib.ListN.{length, drop}
use Rattle.fault.specs.declared.Refusal.{Refusal}
use Rattle.fault.specs.declared.Fault.TheVariants.{Room}
use Rattle.fault.specs.Gates.{at, Passed}
use Rattle.fault.proofs.GateLaws.{holds}
use Rattle.ways.specs.Strip.{Step}
use Rattle.strip.specs.Pair.{Pair, PairRefused}
use Rattle.strip.proofs.PairLaws.{traces_open}
use Rattle.strip.specs.Worth.{W}
use Rattle.joining.specs.Answers.{BestOf, strip_bytes, Cleared, Untouched}
use Rattle.joining.specs.Listing.{Beginning, lined, EnoughLines, list_gates, ListAnswer, refused}
use Rattle.joining.specs.Listing as Listing

pub list_passed : {a b : List ℤ} {limit : ℕ} {lines work : List ℕ} → Pair a b → EnoughLines a b limit lines work
    → Passed (list_gates a b limit lines work)
list_passed p e = (traces_open p, (holds e, tt))

module _ {a b : List ℤ} {limit : ℕ} {lines work lines' work' : List ℕ} where
  pub pair : {r : Refusal} → PairRefused a b r → Untouched lines work lines' work' → ListAnswer a b limit lines work lines' work' (Err r)
  pair x u = refused (inl x) u

  pub room : Pair a b → (EnoughLines a b limit lines work → ⊥) → Untouched lines work lines' work'
      → ListAnswer a b limit lines work lines' work' (Err (at Room 0))
  room p n u = refused (inr (traces_open p, inl (refl, n))) u

  pub listed : {more : Bool} → Pair a b → EnoughLines a b limit lines work → (l : List (List Step)) → Beginning a b limit l more
      → lines' ≡ lined l ++ drop (length l * strip_bytes a b) lines → Cleared a b work work'
      → (s : List Step) → BestOf a b s → ListAnswer a b limit lines work lines' work' (run_of (W a b s) (length l) more)
  listed p e l b f c s x = Listing.listed (list_passed p e) l b f c s x
