-- Each public contract leaves one outcome: the judgement of a file, what is opened of it, and what sealing answers and leaves in the
-- slice. Assumes nothing.
use Rattle.std.specs.Prelude.{Result, Ok, Err}
use mathlib.Core.Path.{◌≡◌, refl, sym, ap, ◌∙◌}
use mathlib.Core.Logic.{◌↔◌}
use mathlib.Core.List.{List}
use Prim.Native.Nat.{ℕ}
use native.Mathlib.Omega.{arith}
use lib.Seq.{ext_get_or}
use Rattle.fault.proofs.GateLaws.{due_single, holds, one_stop, stopped_not_passed}
use Rattle.fault.specs.declared.Refusal.{Refusal}
use Rattle.blocks.specs.Faults.{Sound, BlocksJudged, sound, seal_gates, SealAnswer, sealed}
use Rattle.blocks.specs.Faults as answers
use Rattle.blocks.proofs.Cases.{one_number, blocks_single, blocks_open}
use Rattle.blocks.specs.Opened.{Opened}

-- ---- the judgement

-- two judgements allowed for one file coincide
pub judged_unique : {f : List ℕ} {r s : Result ℕ Refusal} → BlocksJudged f r → BlocksJudged f s → r ≡ s
judged_unique (answers.BlocksJudged.refused {r = r} x) (answers.BlocksJudged.refused {r = q} y) = ap Err (blocks_single r q x y)
judged_unique (answers.BlocksJudged.refused {r = r} x) (sound s) = absurd (blocks_open s r x)
judged_unique (sound s) (answers.BlocksJudged.refused {r = r} x) = absurd (blocks_open s r x)
judged_unique (sound s) (sound t) = ap Ok (one_number s.blocks t.blocks)

-- "sound" exactly for a sound file, with its number of blocks
pub sound_exactly : {f : List ℕ} {n : ℕ} → BlocksJudged f (Ok n) ↔ Sound f n
sound_exactly {f} {n} = (of, sound)
  where
    of : BlocksJudged f (Ok n) → Sound f n
    of (sound s) = s

-- ---- sealing

-- two outcomes allowed for one call of `seal` coincide: the answer, and what the slice holds
pub sealed_unique : {l out new new' : List ℕ} {r s : Result ℕ Refusal} → SealAnswer l out new r → SealAnswer l out new' s
    → (new ≡ new') × (r ≡ s)
sealed_unique {l} {out} (answers.SealAnswer.refused {r = r} x) (answers.SealAnswer.refused {r = q} y) =
    (refl, ap Err (one_stop (seal_gates l out) (due_single, (due_single, tt)) r q x y))
sealed_unique {l} {out} (answers.SealAnswer.refused {r = r} x) (sealed a b h) =
    absurd (stopped_not_passed (seal_gates l out) r x (holds (a, b), (holds h, tt)))
sealed_unique {l} {out} (sealed a b h) (answers.SealAnswer.refused {r = r} x) =
    absurd (stopped_not_passed (seal_gates l out) r x (holds (a, b), (holds h, tt)))
sealed_unique (sealed _ _ _) (sealed _ _ _) = (refl, refl)

-- ---- opening

-- two lists allowed as what is opened of one file coincide
pub opened_unique : {f r s : List ℕ} → Opened f r → Opened f s → r ≡ s
opened_unique {f} {r} {s} p q =
    ext_get_or 0 r s (p.long ∙ sym q.long) (λ k h. p.bytes k (omega (arith, p.long)) ∙ sym (q.bytes k (omega (arith, p.long))))
