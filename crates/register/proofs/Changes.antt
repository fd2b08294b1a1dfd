-- What the checks find, beyond 01: an accepted file in which one byte is changed, or two unequal bytes of one block's contents are
-- exchanged, or two blocks are, is refused with CHECK at the lowest block touched, and nothing is shown. By the theorems of `blocks`:
-- 65,521 is prime, and the number of a block counts. Assumes nothing.
use Rattle.std.specs.Prelude.{Result, Err}
use mathlib.Core.Path.{◌≡◌, refl, ap, subst}
use mathlib.Core.Logic.{inl, inr}
use mathlib.Core.List.{List}
use Prim.Native.Nat.{ℕ, ◌*◌, ◌/◌, ◌%◌, ◌<◌, min}
use native.Mathlib.Omega.{arith}
use lib.ListN.{length, get_or, set}
use Rattle.fault.specs.declared.Refusal.{Refusal}
use Rattle.fault.specs.declared.Fault.TheVariants.{Check}
use Rattle.fault.specs.Gates.{at}
use Rattle.blocks.specs.Faults.{Sound, BlocksJudged}
use Rattle.blocks.specs.Exchanged.{exchanged, exchanged_blocks}
use Rattle.blocks.proofs.Cases.{blocks_single, blocks_open, blocks_stopped}
use Rattle.blocks.proofs.Changes.{one_byte_refused, two_bytes_refused, two_blocks_refused}
use Rattle.register.specs.declared.FileRead.{FileRead}
use Rattle.register.specs.Reading.{Lent, lost, ReadAnswer}
use Rattle.register.specs.Reading as read
use Rattle.register.specs.Accepted.{IsFile, Caught}
use Rattle.register.proofs.RoundTrip.{blocks_in, file_sound}

caught : (g : List ℕ) (b : ℕ) → BlocksJudged g (Err (at Check b)) → Caught g b
caught g b j = record { refused = of }
  where
    of : {x y : Lent} {r : Result FileRead Refusal} → ReadAnswer g x y r → (r ≡ lost (at Check b)) × (y ≡ x)
    of (read.ReadAnswer.refused {r = r} (inl k)) = (ap lost (blocks_single r (at Check b) k (blocks_stopped j)), refl)
    of (read.ReadAnswer.refused (inr k)) = absurd (k.0 (at Check b) (blocks_stopped j))
    of (read.ReadAnswer.held h _) = absurd (blocks_open h.sound (at Check b) (blocks_stopped j))

-- an accepted file is sound
pub record SoundFile (f : List ℕ) : Type 0 where
  pub n : ℕ
  pub sound : Sound f n

pub sound_file : {f : List ℕ} → IsFile f → SoundFile f
sound_file w = record {
  n = blocks_in w.file.stack w.file.strips;
  sound = subst (λ (g : List ℕ). Sound g (blocks_in w.file.stack w.file.strips)) w.file.same (file_sound w.file.stack w.file.strips);
}

module _ {f : List ℕ} (file : IsFile f) where
  -- any change of one byte
  pub change_caught : (i v : ℕ) → i < length f → get_or f i 0 < 256 → v < 256 → (v ≡ get_or f i 0 → ⊥) → Caught (set f i v) (i / 512)
  change_caught i v h old new d =
      let s = (sound_file file).sound in
      caught (set f i v) (i / 512) (one_byte_refused s i v h old new d)

  -- any exchange of two unequal bytes of one block's contents
  pub bytes_caught : (i j : ℕ) → i / 512 ≡ j / 512 → i % 512 < 508 → j % 512 < 508 → i < length f → get_or f i 0 < 256 → get_or f j 0 < 256
      → (get_or f i 0 ≡ get_or f j 0 → ⊥) → Caught (exchanged f i j) (i / 512)
  bytes_caught i j same ci cj h hx hy d =
      let s = (sound_file file).sound in
      caught (exchanged f i j) (i / 512) (two_bytes_refused s i j same ci cj h hx hy d)

  -- any exchange of two blocks
  pub blocks_caught : (b c : ℕ) → 512 * b < length f → 512 * c < length f → (b ≡ c → ⊥) → Caught (exchanged_blocks f b c) (min b c)
  blocks_caught b c hb hc d =
      let s = (sound_file file).sound in
      caught (exchanged_blocks f b c) (min b c) (two_blocks_refused s b c (below hb) (below hc) d)
    where
      below : {d : ℕ} → 512 * d < length f → d < (sound_file file).n
      below h = omega (arith, (sound_file file).sound.blocks.whole)
