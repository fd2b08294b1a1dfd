-- Two outcomes that the contract allows for one input coincide: the number of bytes, every byte written and every other. What is read is
-- one (it is computed), a pair is refused in one way or not at all, and the first best strip and the list of best strips are one. Assumes nothing.
use mathlib.Core.Path.{◌≡◌, refl, sym, ap, ap₂, ◌∙◌}
use mathlib.Core.Bool.{Bool}
use mathlib.Core.List.{List, ◌++◌}
use Prim.Native.Nat.{ℕ}
use native.Mathlib.Omega.{arith}
use lib.IntN.{ℤ}
use lib.ListN.{length, drop}
use Rattle.whole.proofs.Order.{clash}
use Rattle.fault.specs.declared.Fault.TheVariants.{Planes}
use Rattle.fault.specs.Gates.{at, Passed}
use Rattle.fault.proofs.GateLaws.{Single, one_stop, stopped_not_passed}
use Rattle.strip.specs.Pair.{Pair}
use Rattle.strip.proofs.PairLaws.{traces_single, traces_open}
use Rattle.ways.specs.Strip.{Step}
use Rattle.ways.proofs.Unique.{first_unique}
use Rattle.strip.specs.Worth.{value_of}
use Rattle.strip.specs.Band.{band_six}
use Rattle.joining.proofs.Exact.{same_beginning}
use Rattle.std.proofs.Common.{Result, Ok}
use Rattle.fault.specs.declared.Refusal.{Refusal}
use Rattle.listing.specs.Asked as Asked
use Rattle.listing.specs.Lines.{value_line, strip_lines}
use Rattle.listing.specs.Pairs.{PlanesWrong, low, high, fall, PlanesRise}
use Rattle.listing.specs.Listing.{refusal, last_line, BestLines, lines, PlanesRefused, pair_gates, PairListing, refused, best, Listing, unread, read, ListingAnswer, room, written}
use Rattle.listing.proofs.Exact.{pair_exactly}

-- ---- the planes

planes_unique : {lower upper : ℤ} {j k : ℕ} → PlanesWrong lower upper j → PlanesWrong lower upper k → j ≡ k
planes_unique (low x) (low y) = refl
planes_unique (low x) (high y z) = absurd (x y)
planes_unique (low x) (fall y z w) = absurd (x y)
planes_unique (high x y) (low z) = absurd (z x)
planes_unique (high x y) (high z w) = refl
planes_unique (high x y) (fall z w v) = refl
planes_unique (fall x y z) (low w) = absurd (w x)
planes_unique (fall x y z) (high w v) = refl
planes_unique (fall x y z) (fall w v u) = refl

not_both : {lower upper : ℤ} {k : ℕ} → PlanesWrong lower upper k → PlanesRise lower upper → ⊥
not_both (low x) r = x r.low_in
not_both (high x y) r = y r.high_in
not_both (fall x y z) r = clash r.rises z

-- ---- the lines

best_lines_unique : {h : ℤ} {a b : List ℤ} {x y : List ℕ} → BestLines h a b x → BestLines h a b y → x ≡ y
best_lines_unique {h} {a} {b} (lines {more = m} s f k p) (lines {more = n} t g l q) =
    let same = same_beginning a b p q in
    ap₂ (λ (u v : List ℕ). u ++ v) (ap (λ (z : List Step). value_line (value_of a b z) (band_six h a b z)) (first_unique f g))
    (ap₂ (λ (v : List (List Step)) (z : Bool). strip_lines v ++ last_line z) same.strips same.remain)

passed : {lower upper : ℤ} {a b : List ℤ} → Pair a b → PlanesRise lower upper → Passed (pair_gates lower a upper b)
passed p w = (traces_open p, (λ r x. not_both x.wrong w, tt))

planes_single : {lower upper : ℤ} → Single (PlanesRefused lower upper)
planes_single r q x y = x.is ∙ ap (at Planes) (planes_unique x.wrong y.wrong) ∙ sym y.is

pair_unique : {lower upper : ℤ} {a b : List ℤ} {x y : List ℕ} → PairListing lower a upper b x → PairListing lower a upper b y → x ≡ y
pair_unique {lower = l} {upper = u} {a = a} {b = b} (refused {r = r} x) (refused {r = q} y) =
    ap refusal (one_stop (pair_gates l a u b) (traces_single, (planes_single, tt)) r q x y)
pair_unique {lower = l} {upper = u} {a = a} {b = b} (refused {r = r} x) (best p w k) = absurd (stopped_not_passed (pair_gates l a u b) r x (passed p w))
pair_unique {lower = l} {upper = u} {a = a} {b = b} (best p w k) (refused {r = r} x) = absurd (stopped_not_passed (pair_gates l a u b) r x (passed p w))
pair_unique (best p r k) (best q s l) = best_lines_unique k l

-- ---- for any input

-- the text that is written is one
pub listing_unique : {t x y : List ℕ} → Listing t x → Listing t y → x ≡ y
listing_unique (unread d) (unread e) = refl
listing_unique (unread d) (read {lower = l} {upper = u} {a = a} {b = b} k q) = absurd (d l a u b k)
listing_unique (read {lower = l} {upper = u} {a = a} {b = b} k p) (unread e) = absurd (e l a u b k)
listing_unique {t} {y = y} (read {lower = l} {upper = u} {a = a} {b = b} k p) (read {lower = l'} {upper = u'} {a = a'} {b = b'} k' q) =
    let f : Asked.pair l' a' u' b' ≡ Asked.pair l a u b = sym ((pair_exactly t l' a' u' b').1 k') ∙ (pair_exactly t l a u b).1 k in
    let w : l' ≡ l = cc in
    let v : u' ≡ u = cc in
    let i : a' ≡ a = cc in
    let j : b' ≡ b = cc in
    pair_unique p (rw (w, v, i, j) at q)

-- so are the answer and every byte of the lent slice
pub answer_unique : {t out x y : List ℕ} {r s : Result ℕ Refusal} → ListingAnswer t out x r → ListingAnswer t out y s → (r ≡ s) × (x ≡ y)
answer_unique (room h) (room k) = (refl, refl)
answer_unique (room h) (written k q) = absurd (omega arith)
answer_unique (written h p) (room k) = absurd (omega arith)
answer_unique {out = out} (written h p) (written k q) =
    let e = listing_unique p q in
    (ap (λ (x : List ℕ). Ok (length x)) e, ap (λ (x : List ℕ). x ++ drop (length x) out) e)
