-- What one pair of the table computes: the greater of two values and the mark. Assumes nothing.
use mathlib.Core.Path.{◌≡◌, refl, ap₂, ◌∙◌}
use mathlib.Core.Bool.{Bool, true, false}
use Prim.Native.Nat.{◌+◌, ◌*◌, ◌≤◌}
use native.Mathlib.Omega.{arith}
use lib.IntN.{ℤ, ◌+ℤ◌}
use lib.Signed.{le_z}
use mir.Syntax.{w64}
use mir.Val.{bool_byte, to_z, of_z}
use Rattle.whole.proofs.Bounds.{between_sub, between_mul}
use Rattle.whole.proofs.Machine.{Holds, held, from, passed, plus}
use Rattle.ways.specs.Keppel.{maxℤ}
use Rattle.joining.specs.declared.choice.Choice.{Choice}
use Rattle.trace.specs.declared.outline.Corner.{Corner}
use Rattle.trace.specs.Outline.{CornerWithin}
use Rattle.strip.specs.Outlines.{crossed}
use Rattle.joining.specs.Table.{Small, Chosen}

pub bool_byte_most : (t : Bool) → bool_byte t ≤ 1
bool_byte_most true = omega arith
bool_byte_most false = omega arith

pub max_left : (a b : ℤ) → le_z b a ≡ true → a ≡ maxℤ a b
unfolding maxℤ
max_left a b e = rw (e, maxℤ)

pub max_right : (a b : ℤ) → le_z b a ≡ false → b ≡ maxℤ a b
unfolding maxℤ
max_right a b e = rw (e, maxℤ)

-- the tests on words that hold a and b are the tests on a and b
pub mark_same : {m n a b : ℤ} → m ≡ a → n ≡ b
    → bool_byte (le_z n m) + 2 * bool_byte (le_z m n) ≡ bool_byte (le_z b a) + 2 * bool_byte (le_z a b)
mark_same p q = ap₂ (λ (x y : ℤ). bool_byte (le_z y x) + 2 * bool_byte (le_z x y)) p q

-- the sum that `via` takes, as the machine has it: a value within 10^15 of zero and a worth within 4·10^10
pub step_held : {v z : ℤ} {across own : Corner} → Small v → CornerWithin across → CornerWithin own
    → z ≡ crossed across own
    → Holds 1000040000000000 1000040000000000 (to_z w64 (of_z w64 v) +ℤ to_z w64 (of_z w64 z)) (v +ℤ crossed across own)
step_held s p q e =
    plus (held w64 (from refl s) tt) (held w64 (from e (between_sub (between_mul p.x q.dy) (between_mul p.y q.dx))) tt)

-- a value that was stored, and the sum that `via` made of it
pub small_word : {v : ℤ} → Small v → Small (to_z w64 (of_z w64 v))
small_word s = passed w64 s tt

pub via_is : {r v : ℤ} {a b c d : Corner} → Small v → r ≡ to_z w64 (of_z w64 v) +ℤ crossed a b → a ≡ c → b ≡ d → r ≡ v +ℤ crossed c d
via_is s e f g = e ∙ ap₂ (λ (y z : ℤ). y +ℤ z) (held w64 (from refl s) tt).is (ap₂ crossed f g)

pub chosen_same : {m n a b : ℤ} {c : Choice} → m ≡ a → n ≡ b → Chosen m n c → Chosen a b c
chosen_same {c = c} p q h = record { best = h.best ∙ ap₂ maxℤ p q; mark = h.mark ∙ mark_same p q }
