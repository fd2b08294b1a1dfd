-- 01, "What comes back": 14 BLOCK "file length 0, not whole blocks, or over 98"; 15 CHECK "a block's check or its two zero bytes are
-- wrong", place the block; 8 ROOM: "writing needs 512 bytes a block".
use Rattle.std.specs.Prelude.{◌≡◌, List, [], ◌∷◌, ◌++◌, ℕ, ◌*◌, ◌/◌, ◌≤◌, ◌<◌, length, drop, Result, Ok, Err}
use Rattle.fault.specs.declared.Fault.TheVariants.{Block, Check, Room}
use Rattle.fault.specs.declared.Refusal.{Refusal}
use Rattle.fault.specs.Gates.{Gate, unless, Placed, Stopped}
use Rattle.blocks.specs.Blocks.{tail_of, file_of, blocks_for, block_at, contents_at}

-- n whole blocks, 1 to 98 of them
pub record WholeBlocks (f : List ℕ) (n : ℕ) : Type 0 where
  pub whole : length f ≡ 512 * n
  pub some : 1 ≤ n
  pub few : n ≤ 98

pub record CheckFault (f : List ℕ) (b : ℕ) : Type 0 where
  pub wrong : drop 508 (block_at f b) ≡ tail_of b (contents_at f b) → ⊥

-- n whole blocks, each with its check and zero bytes
pub record Sound (f : List ℕ) (n : ℕ) : Type 0 where
  pub blocks : WholeBlocks f n
  pub checks : (b : ℕ) → b < n → CheckFault f b → ⊥

-- BLOCK, then CHECK at the lowest block at fault
abbrev pub blocks_gates : List ℕ → List Gate
blocks_gates f = unless Block (WholeBlocks f (length f / 512)) ∷ Placed Check (CheckFault f) (length f / 512) ∷ []

pub data BlocksJudged (f : List ℕ) : Result ℕ Refusal → Type 0 where
  refused : {r : Refusal} → Stopped (blocks_gates f) r → BlocksJudged f (Err r)
  sound : {n : ℕ} → Sound f n → BlocksJudged f (Ok n)

-- BLOCK, then ROOM: the contents l need 1 to 98 blocks, of 512 bytes each
abbrev pub seal_gates : List ℕ → List ℕ → List Gate
seal_gates l out =
    unless Block ((1 ≤ blocks_for (length l)) × (blocks_for (length l) ≤ 98)) ∷ unless Room (512 * blocks_for (length l) ≤ length out) ∷ []

-- the contents l sealed in blocks at the front of a slice that held out and holds out'
pub data SealAnswer (l out : List ℕ) : List ℕ → Result ℕ Refusal → Type 0 where
  refused : {r : Refusal} → Stopped (seal_gates l out) r → SealAnswer l out out (Err r)
  sealed : 1 ≤ blocks_for (length l) → blocks_for (length l) ≤ 98 → 512 * blocks_for (length l) ≤ length out
      → SealAnswer l out (file_of l ++ drop (512 * blocks_for (length l)) out) (Ok (blocks_for (length l)))
