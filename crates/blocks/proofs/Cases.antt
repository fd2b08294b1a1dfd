-- The refusals of `judge_blocks` and `seal`, from facts about the file, the contents and the room; and the blocks as one gate for callers.
-- Assumes nothing.
use Rattle.std.specs.Prelude.{Err}
use mathlib.Core.Path.{◌≡◌, refl, subst}
use mathlib.Core.Bool.{true, false}
use mathlib.Core.Logic.{inl, inr}
use mathlib.Core.List.{List}
use Prim.Native.Nat.{ℕ, ◌*◌, ◌/◌, ◌≤◌, ◌<◌}
use native.Mathlib.Omega.{arith}
use lib.ListN.{length}
use Rattle.whole.specs.Lowest.{Lowest}
use Rattle.whole.specs.Tells.{Tells}
use Rattle.whole.proofs.Telling.{told_not}
use Rattle.fault.specs.declared.Refusal.{Refusal}
use Rattle.fault.specs.declared.Fault.TheVariants.{Block, Check, Room}
use Rattle.fault.specs.Gates.{at, Open, Stopped, Passed}
use Rattle.fault.proofs.GateLaws.{Single, due_single, holds, placed, placed_single, none_placed, one_stop, stopped_not_passed}
use Rattle.blocks.specs.Blocks.{blocks_for}
use Rattle.blocks.specs.Faults.{WholeBlocks, CheckFault, Sound, blocks_gates, BlocksJudged, seal_gates, SealAnswer}
use Rattle.blocks.specs.Faults as answers

-- the length leaves one number of blocks
pub one_number : {f : List ℕ} {m n : ℕ} → WholeBlocks f m → WholeBlocks f n → m ≡ n
one_number v w = omega (arith, v.whole, w.whole)

module _ {f : List ℕ} where
  counted : {n : ℕ} → WholeBlocks f n → n ≡ length f / 512
  counted w = omega (arith, w.whole)

  as_counted : {n : ℕ} → WholeBlocks f n → WholeBlocks f (length f / 512)
  as_counted w = subst (WholeBlocks f) (counted w) w

  pub block : ((n : ℕ) → WholeBlocks f n → ⊥) → BlocksJudged f (Err (at Block 0))
  block n = answers.BlocksJudged.refused (inl (refl, n (length f / 512)))

  pub check : {n b : ℕ} → WholeBlocks f n → Lowest (CheckFault f) n b → BlocksJudged f (Err (at Check b))
  check {b = b} w l =
      answers.BlocksJudged.refused (inr (holds (as_counted w), inl (placed (subst (λ (k : ℕ). Lowest (CheckFault f) k b) (counted w) l))))

  pub blocks_single : Single (Stopped (blocks_gates f))
  blocks_single r q x y = one_stop (blocks_gates f) (due_single, (placed_single Check (CheckFault f) (length f / 512), tt)) r q x y

  pub sound_passes : {n : ℕ} → Sound f n → Passed (blocks_gates f)
  sound_passes s = (holds (as_counted s.blocks), (none_placed (λ k h. s.checks k (omega (arith, s.blocks.whole))), tt))

  pub blocks_open : {n : ℕ} → Sound f n → Open (Stopped (blocks_gates f))
  blocks_open s r x = stopped_not_passed (blocks_gates f) r x (sound_passes s)

  pub blocks_stopped : {r : Refusal} → BlocksJudged f (Err r) → Stopped (blocks_gates f) r
  blocks_stopped (answers.BlocksJudged.refused x) = x

module _ {l out : List ℕ} where
  pub no_blocks : (1 ≤ blocks_for (length l) → blocks_for (length l) ≤ 98 → ⊥) → SealAnswer l out out (Err (at Block 0))
  no_blocks n = answers.SealAnswer.refused (inl (refl, λ h. n h.0 h.1))

  pub room : 1 ≤ blocks_for (length l) → blocks_for (length l) ≤ 98 → length out < 512 * blocks_for (length l)
      → SealAnswer l out out (Err (at Room 0))
  room a b h = answers.SealAnswer.refused (inr (holds (a, b), inl (refl, λ k. omega arith)))
