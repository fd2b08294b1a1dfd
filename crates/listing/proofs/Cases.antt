-- The listing of an input, case by case: from what reading computes and what the judgements find. Assumes nothing.
use mathlib.Core.Path.{◌≡◌}
use mathlib.Core.Logic.{inl, inr}
use mathlib.Core.List.{List}
use Prim.Native.Nat.{ℕ}
use lib.IntN.{ℤ}
use Rattle.fault.specs.declared.Refusal.{Refusal}
use Rattle.fault.specs.declared.Fault.TheVariants.{Text}
use Rattle.fault.specs.Gates.{at}
use Rattle.strip.specs.Pair.{Pair, PairRefused}
use Rattle.strip.proofs.PairLaws.{traces_open}
use Rattle.listing.specs.Asked.{reads, text, pair}
use Rattle.listing.specs.Listing.{refusal, PlanesRefused, PairListing, refused, Listing}
use Rattle.listing.specs.Listing as listing
use Rattle.listing.proofs.Exact.{pair_exactly, text_exactly}

module _ {lower upper : ℤ} {a b : List ℤ} where
  pub traces : {r : Refusal} → PairRefused a b r → PairListing lower a upper b (refusal r)
  traces x = refused (inl x)

  pub planes : {r : Refusal} → Pair a b → PlanesRefused lower upper r → PairListing lower a upper b (refusal r)
  planes p w = refused (inr (traces_open p, inl w))

pub unread : {t : List ℕ} → reads t ≡ text → Listing t (refusal (at Text 0))
unread {t} e = listing.unread ((text_exactly t).0 e)

pub read : {t : List ℕ} {lower upper : ℤ} {a b : List ℤ} {bytes : List ℕ} → reads t ≡ pair lower a upper b
    → PairListing lower a upper b bytes → Listing t bytes
read {t} {lower} {upper} {a} {b} e p = listing.read ((pair_exactly t lower a upper b).0 e) p
