-- What the marks of a filled table say, and so where they lead: the strip that 001's rule (13) traces. Assumes nothing.
use mathlib.Core.Path.{◌≡◌, refl, ap, ◌∙◌}
use mathlib.Core.Bool.{Bool, true, false}
use mathlib.Core.List.{List}
use Prim.Native.Nat.{ℕ, ◌+◌, ◌*◌, ◌/◌, ◌%◌, ◌≤◌}
use native.Mathlib.Omega.{arith}
use lib.Dec.{eqb}
use lib.IntN.{ℤ}
use lib.ListN.{length}
use mir.Val.{bool_byte}
use Rattle.ways.specs.Value.{Worths}
use Rattle.ways.specs.Keppel.{pointer, also_b, trace}
use Rattle.ways.proofs.TopLaws.{pointer_first, pointer_left}
use Rattle.ways.proofs.Traced.{trace_cong}
use Rattle.joining.specs.Cells.{room}
use Rattle.joining.specs.Table.{mark_of, Tabled}
use Rattle.joining.specs.Walking.{says_a, says_b, Leads}
use Rattle.joining.proofs.CellLaws.{room_fits}

-- the two bits of a mark
bit_a : (s t : Bool) → eqb ((bool_byte s + 2 * bool_byte t) % 2) 1 ≡ s
bit_a true true = refl
bit_a true false = refl
bit_a false true = refl
bit_a false false = refl

bit_b : (s t : Bool) → eqb ((bool_byte s + 2 * bool_byte t) / 2) 1 ≡ t
bit_b true true = refl
bit_b true false = refl
bit_b false true = refl
bit_b false false = refl

module _ {w : Worths} {m n : ℕ} {l l' : List ℕ} {r : ℤ} (f : Tabled w m n l l' r) where
  pub says_a_lem : (i j : ℕ) → i ≤ m → j ≤ n → says_a l' n i j ≡ pointer w i j
  unfolding says_a mark_of
  says_a_lem i j h k = ap (λ (t : ℕ). eqb (t % 2) 1) (f.marks i j h k) ∙ bit_a (pointer w i j) (also_b w i j)

  pub says_b_lem : (i j : ℕ) → i ≤ m → j ≤ n → says_b l' n i j ≡ also_b w i j
  unfolding says_b mark_of
  says_b_lem i j h k = ap (λ (t : ℕ). eqb (t / 2) 1) (f.marks i j h k) ∙ bit_b (pointer w i j) (also_b w i j)

  pub filled_leads : m ≤ 250 → n ≤ 250 → room ((m + 1) * (n + 1)) ≤ length l → Leads l' n m n
  filled_leads h k g = record {
    few = h;
    few_b = k;
    in_row = omega arith;
    long = room_fits {b = (m + 1) * (n + 1)} (omega arith) (omega (arith, f.long));
    first = λ b q. says_a_lem 0 b (omega arith) q ∙ pointer_first w b;
    left = λ a q. says_a_lem (a + 1) 0 q (omega arith) ∙ pointer_left w a;
  }

  -- from any pair inside
  pub filled_trace : (k i j : ℕ) → i ≤ m → j ≤ n → trace (says_a l' n) k i j ≡ trace (pointer w) k i j
  filled_trace k i j h g = trace_cong (says_a l' n) (pointer w) k i j (λ a b p q. says_a_lem a b (omega arith) (omega arith))
