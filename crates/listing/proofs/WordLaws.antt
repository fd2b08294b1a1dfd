-- Words, one by one: a byte that parts is passed over, and bytes that do not part, up to one that does or to the end, are the next
-- word. By recursion along the text. Assumes nothing.
use mathlib.Core.Path.{◌≡◌, refl, sym, ap, ◌∙◌, subst}
use mathlib.Core.Logic.{◌↔◌}
use mathlib.Core.Bool.{Bool, true, false, not, cond}
use mathlib.Core.List.{List, [], ◌∷◌, ◌++◌}
use Prim.Native.Nat.{ℕ, suc, ◌+◌, ◌≤◌, ◌<◌}
use native.Mathlib.Omega.{arith}
use lib.ListN.{length, get_or, take, drop, drop_of_length-le, take-append-drop}
use lib.Seq.{drop-cons}
use borrow.Author.Tests.{ltb-true, ltb-false}
use Rattle.std.proofs.Common.{Some, None, nat_lt, position, take_while}
use Rattle.std.specs.List.{position_or_len, prefix_len}
use Rattle.std.proofs.lemmas.Option.{none-some, same_Some}
use Rattle.std.proofs.lemmas.List.Sums.{prefix_len_stops, prefix_len-le-length}
use Rattle.std.proofs.lemmas.List.Folds.{length-prefix_len}
use Rattle.whole.proofs.TestLaws.{true≢false}
use Rattle.listing.specs.Words.{parting, onto, pieces, filled, words}
use Rattle.listing.specs.Stated.{Spaces, blank, space, Unparted, bare, next, Gap, end, gap, Parted, rest, word}

pub words_none : words [] ≡ []
unfolding words pieces filled
words_none = refl

pub words_skip : (b : ℕ) (t : List ℕ) → parting b ≡ true → words (b ∷ t) ≡ words t
unfolding words pieces onto filled
words_skip b t e = ap (λ (p : Bool). filled (onto p b (pieces t))) e

-- the pieces of bytes that do not part, and of what follows
pieces_word : {w : List ℕ} (r : List ℕ) (ps : List (List ℕ)) → Unparted w → pieces r ≡ [] ∷ ps → pieces (w ++ r) ≡ w ∷ ps
unfolding pieces onto
pieces_word r ps bare f = f
pieces_word r ps (next {b = b} {w = w} h u) f =
    ap (λ (p : Bool). onto p b (pieces (w ++ r))) h ∙ ap (onto false b) (pieces_word r ps u f)

-- a word, and the words of what follows
pub words_word : {b : ℕ} {w r : List ℕ} → Unparted (b ∷ w) → Gap r → words (b ∷ w ++ r) ≡ (b ∷ w) ∷ words r
unfolding words pieces onto filled
words_word u end = ap filled (pieces_word [] [] u refl)
words_word {b} {w} u (gap {b = s} {r = r} e) =
    ap filled (pieces_word (s ∷ r) (pieces r) u (ap (λ (p : Bool). onto p s (pieces r)) e))
    ∙ ap (λ (p : Bool). (b ∷ w) ∷ filled (onto p s (pieces r))) (sym e)

pub words_spaces : {s : List ℕ} (t : List ℕ) → Spaces s → words (s ++ t) ≡ words t
words_spaces t blank = refl
words_spaces t (space {b = b} {s = s} e h) = words_skip b (s ++ t) e ∙ words_spaces t h

-- spaces are no part of a word, and are none
pub spaces_gap : {s : List ℕ} → Spaces s → Gap s
spaces_gap blank = end
spaces_gap (space e s) = gap e

pub words_blank : {s : List ℕ} → Spaces s → words s ≡ []
words_blank blank = words_none
words_blank (space {b = b} {s = s} e h) = words_skip b s e ∙ words_blank h

-- ---- the first word, cut off

-- from the first byte that does not part on, the same words stand
past_spaces : (t : List ℕ) → words t ≡ words (drop (position_or_len (λ b. not (parting b)) t) t)
past_spaces [] = refl
past_spaces (b ∷ t) = go (past_spaces t) (parting b) refl
  where
    n : ℕ
    n = position_or_len (λ b. not (parting b)) t

    one : 1 + n ≡ suc n
    one = omega arith

    go : words t ≡ words (drop n t) → (p : Bool) → parting b ≡ p → words (b ∷ t) ≡ words (drop (cond (not (not p)) (1 + n) 0) (b ∷ t))
    go f true e = words_skip b t e ∙ f ∙ ap (λ (k : ℕ). words (drop k (b ∷ t))) (sym one)
    go f false e = refl

pub no_start : (t : List ℕ) → position (λ b. not (parting b)) t ≡ None → words t ≡ []
no_start t e = go (nat_lt (position_or_len (λ b. not (parting b)) t) (length t)) refl e
  where
    n : ℕ
    n = position_or_len (λ b. not (parting b)) t

    go : (p : Bool) → nat_lt n (length t) ≡ p → cond p (Some n) None ≡ None → words t ≡ []
    go true q e = absurd (none-some n (sym e))
    go false q e = past_spaces t ∙ ap words (drop_of_length-le t (ltb-false n (length t) q)) ∙ words_none

-- where it begins
record Begins (t : List ℕ) (n : ℕ) : Type 0 where
  same : words t ≡ words (drop n t)
  first : ℕ
  more : List ℕ
  here : drop n t ≡ first ∷ more
  whole : parting first ≡ false

start_at : (t : List ℕ) (n : ℕ) → position (λ b. not (parting b)) t ≡ Some n → Begins t n
start_at t n e = go (nat_lt k (length t)) refl e
  where
    k : ℕ
    k = position_or_len (λ b. not (parting b)) t

    still : (b : Bool) → not (not b) ≡ false → b ≡ false
    still false e = refl
    still true e = e

    go : (p : Bool) → nat_lt k (length t) ≡ p → cond p (Some k) None ≡ Some n → Begins t n
    go false q e = absurd (none-some n e)
    go true q e =
        let h : k < length t = ltb-true k (length t) q in
        let same : k ≡ n = same_Some k n e in
        subst (Begins t) same (record {
          same = past_spaces t;
          first = get_or t k 0;
          more = drop (suc k) t;
          here = drop-cons t k 0 h;
          whole = still (parting (get_or t k 0)) (prefix_len_stops (λ b. not (not (parting b))) t 0 h);
        })

-- and how long it is
abbrev pub long : List ℕ → ℕ
long t = length (take_while (λ b. not (parting b)) t)

long_is : (t : List ℕ) → long t ≡ prefix_len (λ b. not (parting b)) t
long_is t = length-prefix_len (λ b. not (parting b)) t

pub long_inside : (t : List ℕ) → long t ≤ length t
long_inside t = omega (arith, long_is t, prefix_len-le-length (λ b. not (parting b)) t)

unparted_front : (t : List ℕ) → Unparted (take_while (λ b. not (parting b)) t)
unparted_front [] = bare
unparted_front (b ∷ t) = go (unparted_front t) (parting b) refl
  where
    n : ℕ
    n = prefix_len (λ b. not (parting b)) t

    one : 1 + n ≡ suc n
    one = omega arith

    go : Unparted (take n t) → (p : Bool) → parting b ≡ p → Unparted (take (cond (not p) (1 + n) 0) (b ∷ t))
    go u true e = bare
    go u false e = subst (λ (k : ℕ). Unparted (take k (b ∷ t))) (sym one) (next e u)

gap_behind : (t : List ℕ) → Gap (drop (prefix_len (λ b. not (parting b)) t) t)
gap_behind [] = end
gap_behind (b ∷ t) = go (gap_behind t) (parting b) refl
  where
    n : ℕ
    n = prefix_len (λ b. not (parting b)) t

    one : 1 + n ≡ suc n
    one = omega arith

    go : Gap (drop n t) → (p : Bool) → parting b ≡ p → Gap (drop (cond (not p) (1 + n) 0) (b ∷ t))
    go g true e = gap e
    go g false e = subst (λ (k : ℕ). Gap (drop k (b ∷ t))) (sym one) g

word_cut : (f : List ℕ) (b : ℕ) (r : List ℕ) → f ≡ b ∷ r → parting b ≡ false
    → (let n = prefix_len (λ b. not (parting b)) f in words f ≡ take n f ∷ words (drop n f))
word_cut f b r e h = rw e (go (parting b) refl h)
  where
    n : ℕ
    n = prefix_len (λ b. not (parting b)) r

    one : 1 + n ≡ suc n
    one = omega arith

    go : (p : Bool) → parting b ≡ p → p ≡ false
        → words (b ∷ r) ≡ take (cond (not p) (1 + n) 0) (b ∷ r) ∷ words (drop (cond (not p) (1 + n) 0) (b ∷ r))
    go true e q = absurd (true≢false q)
    go false e q =
        sym (ap (λ (l : List ℕ). words (b ∷ l)) (take-append-drop n r)) ∙ words_word (next e (unparted_front r)) (gap_behind r)
        ∙ ap (λ (k : ℕ). take k (b ∷ r) ∷ words (drop k (b ∷ r))) (sym one)

-- the word from n on, and what stands behind it
pub next_is : (t : List ℕ) (n : ℕ) (f : List ℕ) (e : ℕ) → position (λ b. not (parting b)) t ≡ Some n → f ≡ drop n t → e ≡ long f
    → words t ≡ take e f ∷ words (drop e f)
next_is t n f e p q r =
    let b = start_at t n p in
    b.same ∙ ap words (sym q) ∙ word_cut f b.first b.more (q ∙ b.here) b.whole
    ∙ ap (λ (e : ℕ). take e f ∷ words (drop e f)) (sym (r ∙ long_is f))

-- ---- the words are those that the text is parted into

parted_words : {t : List ℕ} {ws : List (List ℕ)} → Parted t ws → words t ≡ ws
parted_words (rest s) = words_blank s
parted_words (word {r = r} {b = b} {w = w} s u g p) =
    words_spaces ((b ∷ w) ++ r) s ∙ words_word u g ∙ ap (λ (ws : List (List ℕ)). (b ∷ w) ∷ ws) (parted_words p)

-- a byte that parts in front
parted_space : {b : ℕ} {t : List ℕ} {ws : List (List ℕ)} → parting b ≡ true → Parted t ws → Parted (b ∷ t) ws
parted_space e (rest s) = rest (space e s)
parted_space e (word s u g p) = word (space e s) u g p

-- any other byte in front: a word of its own, or the first of the word that begins there
parted_byte : {b : ℕ} {t : List ℕ} {ws : List (List ℕ)} → parting b ≡ false → Parted t ws → (vs : List (List ℕ)) × Parted (b ∷ t) vs
parted_byte {b} e (rest blank) = ((b ∷ []) ∷ [], word blank (next e bare) end (rest blank))
parted_byte {b} e (rest (space f s)) = ((b ∷ []) ∷ [], word blank (next e bare) (gap f) (rest (space f s)))
parted_byte {b} e (word {b = c} {w = w} {ws = ws} blank u g p) = ((b ∷ c ∷ w) ∷ ws, word blank (next e u) g p)
parted_byte {b} e (word {b = c} {w = w} {ws = ws} (space f s) u g p) =
    ((b ∷ []) ∷ (c ∷ w) ∷ ws, word blank (next e bare) (gap f) (word (space f s) u g p))

parted : (t : List ℕ) → (ws : List (List ℕ)) × Parted t ws
parted [] = ([], rest blank)
parted (b ∷ t) = go (parted t) (parting b) refl
  where
    go : (ws : List (List ℕ)) × Parted t ws → (p : Bool) → parting b ≡ p → (ws : List (List ℕ)) × Parted (b ∷ t) ws
    go q true e = (q.0, parted_space e q.1)
    go q false e = parted_byte e q.1

pub words_exactly : (t : List ℕ) (ws : List (List ℕ)) → (words t ≡ ws) ↔ Parted t ws
words_exactly t ws = (λ e. let p = parted t in subst (Parted t) (sym (parted_words p.1) ∙ e) p.1, λ p. parted_words p)
