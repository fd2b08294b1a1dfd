-- The layers of the text: a plane, a number of points and their coordinates, and what follows. Where one of them is missing, the
-- definition finds no layer either, whatever else the text has; where all are there, it finds this one. Assumes nothing.
use mathlib.Core.Path.{◌≡◌, refl, sym, ap, ◌∙◌, subst}
use mathlib.Core.List.{List, [], ◌∷◌, ◌++◌}
use Rattle.std.proofs.Common.{Option, None, Some, Result, Ok, Err, unsigned_abs}
use Rattle.std.specs.Int.{FitsUnsignedBits}
use Rattle.std.specs.Result.{OkIff, result_ok}
use Prim.Native.Nat.{ℕ, ◌*◌, ◌<◌}
use native.Mathlib.Omega.{arith}
use lib.IntN.{ℤ, pos, negsuc}
use lib.ListN.{length, length-append}
use lib.Seq.{take_at, drop_at}
use mir.Syntax.{w32}
use mir.Val.{SFits}
use borrow.Author.Tests.{le-leb, lt-leb}
use Rattle.listing.specs.Asked.{also, no, layer, layer_of}
use Rattle.listing.specs.Filling.{numbers_in, NumberRead, CountRead, points, uncounted, CoordsRead, all, short, LayerRead, read, other}
use Rattle.listing.proofs.AheadLaws.{heads, also_rest, ahead_two}
use Rattle.listing.proofs.FillLaws.{no_number, is_number}

-- ---- a number of points

pub count_missing : {t t' : List ℕ} → NumberRead t t' None → CountRead t t' None
count_missing n = uncounted (λ m l e. let q = no_number n (pos m ∷ l) e in let z : ◌≡◌ {A = ℕ} 0 1 = cc in omega arith)

count_negative : {t t' : List ℕ} {k : ℕ} → NumberRead t t' (Some (negsuc k)) → CountRead t t' None
count_negative {t} {t'} {k} n = uncounted (λ m l e.
    let rest = also_rest (negsuc k) (numbers_in t') (pos m ∷ l) (sym (is_number n) ∙ e) in
    let same : pos m ≡ negsuc k = heads rest.2 in
    let z : ◌≡◌ {A = ℕ} 0 1 = cc in omega arith)

-- y is z read back from a signed word, and as a number without a sign it fits or not
pub count_read : {t t' : List ℕ} {y z : ℤ} {E : Type 0} → y ≡ z → SFits w32 z → NumberRead t t' (Some z) → (r : Result ℕ E)
    → OkIff r (FitsUnsignedBits 64 y) (unsigned_abs y) → CountRead t t' (result_ok r)
count_read {t} {t'} {y} {z} {E} e s n r f = go z s n r (subst (λ (y : ℤ). OkIff r (FitsUnsignedBits 64 y) (unsigned_abs y)) e f)
  where
    go : (z : ℤ) → SFits w32 z → NumberRead t t' (Some z) → (r : Result ℕ E) → OkIff r (FitsUnsignedBits 64 z) (unsigned_abs z)
        → CountRead t t' (result_ok r)
    go (pos m) s n (Ok v) f = rw f.1 (points (is_number n) (omega (arith, s.sfits)))
    go (pos m) s n (Err x) f = absurd (f (omega (arith, s.sfits)))
    go (negsuc k) s n (Ok v) f = absurd f.0
    go (negsuc k) s n (Err x) f = count_negative n

-- ---- a layer, as the definition finds it

layer_uncounted : (z : ℤ) (l : List ℤ) → ((m : ℕ) (k : List ℤ) → l ≡ pos m ∷ k → ⊥) → layer_of (z ∷ l) ≡ no
unfolding layer_of
layer_uncounted z [] n = refl
layer_uncounted z (pos m ∷ l) n = absurd (n m l refl)
layer_uncounted z (negsuc m ∷ l) n = refl

layer_short : (z : ℤ) (m : ℕ) (l : List ℤ) → length l < 2 * m → layer_of (z ∷ pos m ∷ l) ≡ no
unfolding layer_of
layer_short z m l h = rw (lt-leb (2 * m) (length l) h)

pub layer_is : (z : ℤ) (m : ℕ) (cs l : List ℤ) → length cs ≡ 2 * m → layer_of (z ∷ pos m ∷ cs ++ l) ≡ layer z cs l
unfolding layer_of
layer_is z m cs l e =
    rw (le-leb (2 * m) (length (cs ++ l)) (omega (arith, length-append cs l)), take_at cs l (2 * m) e, drop_at cs l (2 * m) e)

-- ---- a layer, as it was read

pub layer_no_plane : {t t' : List ℕ} {room room' : List ℤ} → NumberRead t t' None → LayerRead t t' room room' None
unfolding layer_of
layer_no_plane n = other (λ l e. ap layer_of (no_number n l e))

pub layer_no_count : {t t' t'' : List ℕ} {z : ℤ} {room room' : List ℤ} → NumberRead t t' (Some z) → CountRead t' t'' None
    → LayerRead t t'' room room' None
layer_no_count {t} {t'} {z = z} n (uncounted u) = other (λ l e.
    let rest = also_rest z (numbers_in t') l (sym (is_number n) ∙ e) in
    ap layer_of rest.2 ∙ layer_uncounted z rest.0 (λ m j g. u m j (rest.1 ∙ ap Some g)))

-- a plane and a number of points
pub record Headed (t t' : List ℕ) (z : ℤ) (m : ℕ) : Type 0 where
  pub numbers : numbers_in t ≡ also (Some z) (also (Some (pos m)) (numbers_in t'))
  pub small : m < 2147483648

pub layer_headed : {t t' t'' : List ℕ} {m : ℕ} {z : ℤ} → NumberRead t t' (Some z) → CountRead t' t'' (Some m) → Headed t t'' z m
layer_headed {z = z} n (points e h) = record { numbers = is_number n ∙ ap (also (Some z)) e; small = h }

pub layer_short_of : {t t' t'' : List ℕ} {m : ℕ} {z : ℤ} {room room' : List ℤ} → Headed t t' z m → CoordsRead t' t'' (2 * m) room room' None
    → LayerRead t t'' room room' None
layer_short_of {t} {t'} {m = m} {z = z} h (short u) = other (λ l e.
    let first = also_rest z (also (Some (pos m)) (numbers_in t')) l (sym h.numbers ∙ e) in
    let second = also_rest (pos m) (numbers_in t') first.0 first.1 in
    ap layer_of (first.2 ∙ ap (λ (j : List ℤ). z ∷ j) second.2) ∙ layer_short z m second.0 (u second.0 second.1))

pub layer_whole : {t t' t'' : List ℕ} {m : ℕ} {z : ℤ} {room room' : List ℤ} {u : Unit} → Headed t t' z m
    → CoordsRead t' t'' (2 * m) room room' (Some u) → LayerRead t t'' room room' (Some (record { plane = z; count = m }))
layer_whole {t'' = t''} {m = m} {z = z} h (all cs e l g) =
    let both = ap (λ (o : Option (List ℤ)). also (Some z) (also (Some (pos m)) o)) e in
    read cs (h.numbers ∙ both ∙ ahead_two z (pos m) cs (numbers_in t'')) l g
