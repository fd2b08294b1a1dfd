-- Reading leaves one outcome for each file and each lent memory: the answer and every lent element. What the gates stop has not
-- passed them, and a file holds at most one stack with its strips. A refusal leaves the lent memory as it was, and the stack that is held
-- is refused by 2 to 7 only. Assumes nothing.
use Rattle.std.specs.Prelude.{Result, Err}
use mathlib.Core.Path.{◌≡◌, refl, sym, ap}
use mathlib.Core.Logic.{inl, inr}
use mathlib.Core.List.{List}
use Prim.Native.Nat.{ℕ, ◌%◌, ◌≤◌}
use native.Mathlib.Omega.{arith}
use lib.IntN.{ℤ}
use lib.ListN.{length}
use Rattle.fault.specs.declared.Fault.{Fault}
use Rattle.fault.specs.declared.Refusal.{Refusal}
use Rattle.fault.specs.Number.{number_of}
use Rattle.fault.specs.Gates.{at, Stopped}
use Rattle.fault.proofs.GateLaws.{one_stop, stopped_not_passed}
use Rattle.stack.specs.declared.Layer.{Layer}
use Rattle.stack.specs.Faults.{LayersRight, stack_gates}
use Rattle.stack.proofs.Exact.{trace_fault_number}
use Rattle.register.specs.declared.FileRead.{FileRead}
use Rattle.register.specs.Stored.{Stored, LayersIn}
use Rattle.register.specs.Reading.{Lent, lost, hand_gates, HandedOver, file_gates, ReadAnswer}
use Rattle.register.specs.Reading as read
use Rattle.register.proofs.StoredLaws.{stored_many}
use Rattle.register.proofs.ReadGates.{hand_passes, hand_singles, stored_unique, holds_passes, file_singles}

-- two outcomes allowed for what is handed over coincide
pub handed_unique : {es : List Layer} {c : List ℤ} {l : List ℕ} {x y z : Lent} {r s : Result FileRead Refusal} → HandedOver es c l x y r
    → HandedOver es c l x z s → (y ≡ z) × (r ≡ s)
handed_unique {es} {c} {l} {x} (read.HandedOver.refused {r = r} p) (read.HandedOver.refused {r = q} t) =
    (refl, ap lost (one_stop (hand_gates es c l x) hand_singles r q p t))
handed_unique {es} {c} {l} {x} (read.HandedOver.refused {r = r} p) (read.HandedOver.whole a e s) =
    absurd (stopped_not_passed (hand_gates es c l x) r p (hand_passes a e s))
handed_unique {es} {c} {l} {x} (read.HandedOver.whole a e s) (read.HandedOver.refused {r = r} p) =
    absurd (stopped_not_passed (hand_gates es c l x) r p (hand_passes a e s))
handed_unique (read.HandedOver.whole _ _ _) (read.HandedOver.whole _ _ _) = (refl, refl)

-- two outcomes allowed for one call of `read` coincide: what the lent memory holds, and the answer
pub read_unique : {f : List ℕ} {x y z : Lent} {r s : Result FileRead Refusal} → ReadAnswer f x y r → ReadAnswer f x z s → (y ≡ z) × (r ≡ s)
read_unique {f} (read.ReadAnswer.refused {r = r} p) (read.ReadAnswer.refused {r = q} t) =
    (refl, ap lost (one_stop (file_gates f) file_singles r q p t))
read_unique {f} (read.ReadAnswer.refused {r = r} p) (read.ReadAnswer.held h o) = absurd (stopped_not_passed (file_gates f) r p (holds_passes h))
read_unique {f} (read.ReadAnswer.held h o) (read.ReadAnswer.refused {r = r} p) = absurd (stopped_not_passed (file_gates f) r p (holds_passes h))
read_unique {f} {x} {y} {z} {r} {s} (read.ReadAnswer.held {es = es} {c = c} {l = l} h o) (read.ReadAnswer.held {es = d} {c = b} {l = m} g q) =
    let same = stored_unique (omega (arith, h.layers.two)) h.stored g.stored in
    handed_unique (moved same.0.0 same.0.1 same.1 o) q
  where
    moved : es ≡ d → c ≡ b → l ≡ m → HandedOver es c l x y r → HandedOver d b m x y r
    moved p q r o = rw (sym p, sym q, sym r) o

-- ---- refusals

handed_untouched : {es : List Layer} {c : List ℤ} {l : List ℕ} {x y : Lent} {r : Result FileRead Refusal} {q : Refusal} → HandedOver es c l x y r
    → r ≡ Err q → y ≡ x
handed_untouched (read.HandedOver.refused _) e = refl
handed_untouched (read.HandedOver.whole _ _ _) e = absurd cc

-- "Each refusal returns number and place only; the lent memory is untouched."
pub read_refused_untouched : {f : List ℕ} {x y : Lent} {r : Result FileRead Refusal} {q : Refusal} → ReadAnswer f x y r → r ≡ Err q → y ≡ x
read_refused_untouched (read.ReadAnswer.refused _) e = refl
read_refused_untouched (read.ReadAnswer.held h o) e = handed_untouched o e

-- "a file has 16 here instead of 1 and 12": the stack that is held is refused by 2 to 7 only
pub stored_number : {k : List ℕ} {es : List Layer} {c : List ℤ} {l : List ℕ} {r : Refusal} → LayersIn k → Stored k es c l
    → Stopped (stack_gates es c) r → (2 ≤ number_of r.fault) × (number_of r.fault ≤ 7)
stored_number {k} {es} {c} {r = r} i s x = number x
  where
    named : {g : Fault} {p : ℕ} → r ≡ at g p → number_of r.fault ≡ number_of g
    named e = ap (λ (r : Refusal). number_of r.fault) e

    right : LayersRight es
    right = record { two = omega (arith, stored_many s, i.two); twenty = omega (arith, stored_many s, i.twenty) }

    both : (n : ℕ) → n % 2 ≡ 0 → n % 2 ≡ 1 → ⊥
    both n p q = omega arith

    number : Stopped (stack_gates es c) r → (2 ≤ number_of r.fault) × (number_of r.fault ≤ 7)
    number (inl x) = absurd (x.1 right)
    number (inr (_, inl x)) = absurd (both (length c) s.spanned.even x.1)
    number (inr (_, inr (_, inl x))) = absurd (s.spanned.spans x.place x.lowest.below x.lowest.here)
    number (inr (_, inr (_, inr (_, inl x)))) =
        let n = trace_fault_number s.spanned x.lowest.below x.lowest.here in
        let e = named x.is in (omega (arith, e, n.0), omega (arith, e, n.1))
    number (inr (_, inr (_, inr (_, inr (_, inl x))))) = let e = named x.is in (omega (arith, e), omega (arith, e))
    number (inr (_, inr (_, inr (_, inr (_, inr (_, x)))))) = absurd x
