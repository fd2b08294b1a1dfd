-- One step: what two outlines give is 01's worths inside the grid, and it leaves the sum far inside an i64. Assumes nothing.
use mathlib.Core.Path.{◌≡◌, refl, sym, ap₂, ◌∙◌, subst}
use mathlib.Core.List.{List, [], ◌∷◌}
use Prim.Native.Nat.{ℕ, ◌+◌, ◌≤◌, ◌<◌}
use native.Mathlib.Omega.{arith}
use lib.IntN.{ℤ, ◌+ℤ◌, ◌-ℤ◌, ◌*ℤ◌}
use mir.Syntax.{w64}
use mir.Val.{to_z, of_z}
use Rattle.whole.specs.Between.{Within}
use Rattle.whole.proofs.Bounds.{between_sub, between_mul}
use Rattle.whole.proofs.Machine.{Holds, held, from, plus}
use Rattle.ways.specs.Strip.{Step, A, B, steps_a, steps_b}
use Rattle.trace.specs.Points.{count}
use Rattle.trace.specs.declared.outline.Outline.{Outline}
use Rattle.trace.specs.Outline.{Outlined, Ranged}
use Rattle.trace.proofs.OutlineLaws.{corner_within, outlined_x, outlined_y, outlined_dx, outlined_dy}
use Rattle.trace.specs.declared.outline.Corner.{Corner}
use Rattle.strip.specs.Outlines.{crossed, worths_of}
use Rattle.strip.specs.Worth.{worth_a, worth_b, worths}
use Rattle.strip.specs.declared.walking.Walked.{Walked}
use Rattle.strip.specs.Bytes.{byte_of}
use Rattle.strip.specs.Walk.{worth_of, Ready, Room, By}

module _ {a b : List ℤ} {p q : Outline} (o : Outlined a p) (u : Outlined b q) where
  -- inside the grid the outlines give 01's worths
  pub outline_A : (i j : ℕ) → i < count a → j ≤ count b → (worths_of p q).worth_a i j ≡ worth_a a b i j
  unfolding worth_a
  outline_A i j h k = ap₂ ◌-ℤ◌ (ap₂ ◌*ℤ◌ (outlined_x u j k) (outlined_dy o i h)) (ap₂ ◌*ℤ◌ (outlined_y u j k) (outlined_dx o i h))

  pub outline_B : (i j : ℕ) → i ≤ count a → j < count b → (worths_of p q).worth_b i j ≡ worth_b a b i j
  unfolding worth_b
  outline_B i j h k = ap₂ ◌-ℤ◌ (ap₂ ◌*ℤ◌ (outlined_x o i h) (outlined_dy u j k)) (ap₂ ◌*ℤ◌ (outlined_y o i h) (outlined_dx u j k))

  -- what a step that there is room for gains
  pub gains : (x : Step) (i j : ℕ) → i + steps_a (x ∷ []) ≤ count a → j + steps_b (x ∷ []) ≤ count b
      → worth_of (worths_of p q) x i j ≡ worth_of (worths a b) x i j
  unfolding steps_a steps_b
  gains A i j h k = outline_A i j (omega arith) (omega arith)
  gains B i j h k = outline_B i j (omega arith) (omega arith)

  -- whatever pair it starts from, a step gains at most so much: what an outline holds is bounded everywhere
  pub gain_within : Ranged a → Ranged b → (i j : ℕ) (x : Step) → Within 40000000000 (worth_of (worths_of p q) x i j)
  gain_within ra rb i j x = go x
    where
      go : (x : Step) → Within 40000000000 (worth_of (worths_of p q) x i j)
      go A =
          let own = corner_within ra o i in
          let other = corner_within rb u j in
          between_sub (between_mul other.x own.dy) (between_mul other.y own.dx)
      go B =
          let own = corner_within rb u j in
          let other = corner_within ra o i in
          between_sub (between_mul other.x own.dy) (between_mul other.y own.dx)

pub crossed_as : {a b c d : Corner} {v : ℤ} → v ≡ crossed a b → a ≡ c → b ≡ d → v ≡ crossed c d
crossed_as e f g = e ∙ ap₂ crossed f g

-- the machine's sum of what it has for z and v
abbrev pub Sum : ℤ → ℤ → Type 0
Sum z v = Holds 20040000000000 20040000000000 (to_z w64 (of_z w64 z) +ℤ to_z w64 (of_z w64 v)) (z +ℤ v)

pub added : {z v : ℤ} → Within 20000000000000 z → Within 40000000000 v → Sum z v
added b h = plus (held w64 (from refl b) tt) (held w64 (from refl h) tt)

-- the sum with what a step gains, as the machine has it
pub gained : {p q : Outline} {s : Walked} {v : ℤ} → Ready p q s → (x : Step) → v ≡ worth_of (worths_of p q) x s.i s.j → Sum s.value v
gained {s = s} a x e = added a.small (subst (Within 40000000000) (sym e) (a.gains x))

-- ---- by which byte

module _ {p q : Outline} {byte : ℕ} {s : Walked} where
  pub full_lower : byte ≡ 0 → s.i ≡ p.count → (x : Step) → byte ≡ byte_of x → Room p q x s → ⊥
  unfolding steps_a
  full_lower z e A d r = omega (arith, r.in_a, e)
  full_lower z e B d r = omega (arith, z, d)

  pub full_upper : byte ≡ 1 → s.j ≡ q.count → (x : Step) → byte ≡ byte_of x → Room p q x s → ⊥
  unfolding steps_b
  full_upper z e A d r = omega (arith, z, d)
  full_upper z e B d r = omega (arith, r.in_b, e)

  pub over : 1 < byte → (x : Step) → byte ≡ byte_of x → Room p q x s → ⊥
  over h A d r = omega (arith, h, d)
  over h B d r = omega (arith, h, d)

  module _ {r : Walked} (a : Ready p q s) where
    pub by_lower : byte ≡ 0 → (s.i ≡ p.count → ⊥) → r.i ≡ s.i + 1 → r.j ≡ s.j → r.value ≡ s.value +ℤ (worths_of p q).worth_a s.i s.j
        → (x : Step) × (byte ≡ byte_of x) × By p q x s r
    unfolding steps_a steps_b
    by_lower z n ei ej ev =
        (A, z, record { room = record { in_a = omega (arith, a.in_a, n); in_b = omega (arith, a.in_b) }; i = ei; j = omega arith; value = ev })

    pub by_upper : byte ≡ 1 → (s.j ≡ q.count → ⊥) → r.i ≡ s.i → r.j ≡ s.j + 1 → r.value ≡ s.value +ℤ (worths_of p q).worth_b s.i s.j
        → (x : Step) × (byte ≡ byte_of x) × By p q x s r
    unfolding steps_a steps_b
    by_upper z n ei ej ev =
        (B, z, record { room = record { in_a = omega (arith, a.in_a); in_b = omega (arith, a.in_b, n) }; i = omega arith; j = ej; value = ev })
