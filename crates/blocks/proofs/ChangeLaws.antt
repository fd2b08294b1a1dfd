-- What a change within one block does to its check. The sum of (k+1)·byte changes by a product of a number up to 508 and one up to
-- 255, which is no multiple of 65,521: up to 508·255 the only multiple is 65,521 itself, and no number from 2 to 255 divides it. What
-- stands behind the contents is a function of them and of the block's number. Assumes nothing.
use mathlib.Core.Path.{◌≡◌, refl, sym, ap, ap₂, ◌∙◌, subst}
use mathlib.Core.Bool.{Bool, false}
use mathlib.Core.Logic.{◌⊎◌, inl, inr}
use mathlib.Core.List.{List, [], ◌∷◌}
use Prim.Native.Nat.{ℕ, zero, suc, ◌+◌, ◌*◌, ◌-◌, ◌%◌, ◌≤◌, ◌<◌, min}
use native.Mathlib.Nat.{mul-mod_left, mul-le-mul}
use native.Mathlib.Omega.{arith}
use lib.Dec.{eqb}
use lib.ListN.{length, get_or, take, drop, set, length-set, length-take, length-drop}
use lib.Seq.{take-set-le, take-set-lt, drop-set-lt, drop-set-add, get_or-set_same, get_or-set_other, get_or-take, get_or-drop}
use borrow.Author.Tests.{eqb-false}
use Rattle.whole.specs.Tests.{some}
use Rattle.whole.proofs.TestLaws.{some_none}
use Rattle.blocks.specs.Blocks.{weighed, check_of, tail_of}
use Rattle.blocks.proofs.TailLaws.{two_same}
use Rattle.blocks.proofs.OpenLaws.{less_or_not}
use Rattle.blocks.proofs.RoundTrip.{Right}

-- ---- 65,521

-- whether d + 2 divides it
divides : ℕ → Bool
divides k = eqb (65521 % (k + 2)) 0

-- no number from 2 to 255 does
no_divisor : some 254 divides ≡ false
unfolding some divides
no_divisor = refl

product_not : (s d : ℕ) → s ≤ 508 → d ≤ 255 → s * d ≡ 65521 → ⊥
unfolding divides
product_not s zero hs hd e = omega arith
product_not s (suc zero) hs hd e = omega arith
product_not s (suc (suc k)) hs hd e =
    let t : eqb (65521 % (k + 2)) 0 ≡ false = some_none 254 divides no_divisor k (omega arith) in
    let m : suc (suc k) ≡ k + 2 = omega arith in
    eqb-false (65521 % (k + 2)) 0 t
    (ap₂ (λ (a b : ℕ). a % b) (sym e) (sym m) ∙ mul-mod_left s (suc (suc k)))

-- so a product of a number up to 508 and one up to 255 is not lost in the remainder
no_multiple : (a s d : ℕ) → 1 ≤ s → s ≤ 508 → 1 ≤ d → d ≤ 255 → (a + s * d) % 65521 ≡ a % 65521 → ⊥
no_multiple a s d s1 s2 d1 d2 e =
    let most : s * d ≤ 508 * 255 = mul-le-mul s2 d2 in
    let least : 1 * 1 ≤ s * d = mul-le-mul s1 d1 in
    product_not s d s2 d2 (only a (s * d) (omega arith) (omega arith) e)
  where
    only : (a p : ℕ) → 1 ≤ p → p ≤ 129540 → (a + p) % 65521 ≡ a % 65521 → p ≡ 65521
    only a p h k e = omega arith

-- two weighed sums that differ by s times the difference of two bytes are not the same in the check
differ_up : (b s x d w w' : ℕ) → 1 ≤ s → s ≤ 508 → 1 ≤ d → d ≤ 255 → w' + s * x ≡ w + s * (x + d)
    → (b + 1 + w') % 65521 ≡ (b + 1 + w) % 65521 → ⊥
differ_up b s x d w w' s1 s2 d1 d2 e q =
    let more : b + 1 + w' ≡ b + 1 + w + s * d = omega arith in
    no_multiple (b + 1 + w) s d s1 s2 d1 d2 (ap (λ (n : ℕ). n % 65521) (sym more) ∙ q)

differ : (b s x y w w' : ℕ) → 1 ≤ s → s ≤ 508 → x < 256 → y < 256 → (x ≡ y → ⊥) → w' + s * x ≡ w + s * y
    → (b + 1 + w') % 65521 ≡ (b + 1 + w) % 65521 → ⊥
differ b s x y w w' s1 s2 hx hy n e q = go (less_or_not x y)
  where
    go : (x < y) ⊎ (y ≤ x) → ⊥
    go (inl h) =
        let is : y ≡ x + (y - x) = omega arith in
        differ_up b s x (y - x) w w' s1 s2 (omega arith) (omega arith) (e ∙ ap (λ (m : ℕ). w + s * m) is) q
    go (inr h) =
        let is : x ≡ y + (x - y) = omega arith in
        differ_up b s y (x - y) w' w s1 s2 (omega arith) (omega arith) (sym e ∙ ap (λ (m : ℕ). w' + s * m) is) (sym q)

-- ---- the weighed sum after a change

weighed_set : (k : ℕ) (l : List ℕ) (j v : ℕ) → j < length l
    → weighed k (set l j v) + (k + j + 1) * get_or l j 0 ≡ weighed k l + (k + j + 1) * v
unfolding weighed
weighed_set k [] j v h = absurd (none j h)
  where
    none : (j : ℕ) → j < 0 → ⊥
    none j h = omega arith
weighed_set k (x ∷ l) zero v h = omega arith
weighed_set k (x ∷ l) (suc j) v h = omega (arith, weighed_set (suc k) l j v (omega arith))

-- ---- one block

same_check : (c : ℕ) (x y : List ℕ) → drop 508 y ≡ drop 508 x → Right c x → Right c y → check_of c (take 508 y) ≡ check_of c (take 508 x)
unfolding tail_of
same_check c x y e p q =
    two_same (check_of c (take 508 y)) (check_of c (take 508 x)) (0 ∷ 0 ∷ []) (0 ∷ 0 ∷ []) (sym q ∙ e ∙ p)

-- a byte of the contents changed
content_changed : (c : ℕ) (x : List ℕ) (j v : ℕ) → j < 508 → j < length x → get_or x j 0 < 256 → v < 256 → (v ≡ get_or x j 0 → ⊥)
    → Right c x → Right c (set x j v) → ⊥
unfolding check_of
content_changed c x j v h b g l n p q =
    let t = take 508 x in
    let byte : get_or t j 0 ≡ get_or x j 0 = get_or-take 508 x j 0 h in
    let long : j < length t = simp length-take (omega arith) in
    let changed : take 508 (set x j v) ≡ set t j v = take-set-lt 508 x j v h in
    let sum = weighed_set 0 t j v long in
    let one : check_of c (set t j v) ≡ check_of c t = ap (check_of c) (sym changed) ∙ same_check c x (set x j v) (drop-set-lt 508 x j v h) p q in
    differ c (0 + j + 1) (get_or t j 0) v (weighed 0 t) (weighed 0 (set t j v)) (omega arith) (omega arith) (omega arith) l
    (λ e. n (sym e ∙ byte)) sum one

-- a byte behind the contents changed
tail_changed : (c : ℕ) (x : List ℕ) (i v : ℕ) → 508 + i < length x → (v ≡ get_or x (508 + i) 0 → ⊥) → Right c x → Right c (set x (508 + i) v) → ⊥
tail_changed c x i v b n p q =
    let same : set (drop 508 x) i v ≡ drop 508 x =
    sym (drop-set-add 508 x i v) ∙ q ∙ ap (tail_of c) (take-set-le 508 x (508 + i) v (omega arith)) ∙ sym p in
    n (sym (get_or-set_same (drop 508 x) i v 0 (simp length-drop (omega arith))) ∙ ap (λ (l : List ℕ). get_or l i 0) same ∙ get_or-drop 508 x i 0)

-- any byte changed
pub byte_changed : (c : ℕ) (x : List ℕ) (j v : ℕ) → j < length x → get_or x j 0 < 256 → v < 256 → (v ≡ get_or x j 0 → ⊥)
    → Right c x → Right c (set x j v) → ⊥
byte_changed c x j v b g l n p q = go (less_or_not j 508)
  where
    go : (j < 508) ⊎ (508 ≤ j) → ⊥
    go (inl h) = content_changed c x j v h b g l n p q
    go (inr h) =
        let is : j ≡ 508 + (j - 508) = omega arith in
        tail_changed c x (j - 508) v (omega arith) (λ e. n (e ∙ ap (λ (k : ℕ). get_or x k 0) (sym is))) p
        (subst (λ (k : ℕ). Right c (set x k v)) is q)

-- two unequal bytes of the contents exchanged
pub bytes_exchanged : (c : ℕ) (x : List ℕ) (j s : ℕ) → 1 ≤ s → j + s < 508 → j + s < length x → get_or x j 0 < 256 → get_or x (j + s) 0 < 256
    → (get_or x j 0 ≡ get_or x (j + s) 0 → ⊥) → Right c x → Right c (set (set x j (get_or x (j + s) 0)) (j + s) (get_or x j 0)) → ⊥
unfolding check_of
bytes_exchanged c x j s s1 h b gx gy n p q =
    let t = take 508 x in
    let k = j + s in
    let u = get_or x j 0 in
    let v = get_or x (j + s) 0 in
    let first : get_or t j 0 ≡ u = get_or-take 508 x j 0 (omega arith) in
    let long : length t ≡ min 508 (length x) = length-take 508 x in
    let second : get_or (set t j v) (j + s) 0 ≡ v = get_or-set_other t j (j + s) v 0 (λ e. omega arith) ∙ get_or-take 508 x (j + s) 0 h in
    let one = weighed_set 0 t j v (omega arith) in
    let two = weighed_set 0 (set t j v) (j + s) u (omega (arith, length-set t j v)) in
    let changed : take 508 (set (set x j v) (j + s) u) ≡ set (set t j v) (j + s) u =
    take-set-lt 508 (set x j v) (j + s) u h ∙ ap (λ (l : List ℕ). set l (j + s) u) (take-set-lt 508 x j v (omega arith)) in
    let tail : drop 508 (set (set x j v) (j + s) u) ≡ drop 508 x =
    drop-set-lt 508 (set x j v) (j + s) u h ∙ drop-set-lt 508 x j v (omega arith) in
    let same : check_of c (set (set t j v) (j + s) u) ≡ check_of c t =
    ap (check_of c) (sym changed) ∙ same_check c x (set (set x j v) (j + s) u) tail p q in
    differ c s v u (weighed 0 t) (weighed 0 (set (set t j v) (j + s) u)) s1 (omega arith) gy gx (λ e. n (sym e))
    (sums j s u v (weighed 0 t) (weighed 0 (set t j v)) (weighed 0 (set (set t j v) (j + s) u))
    (ap (λ (m : ℕ). weighed 0 (set t j v) + (0 + j + 1) * m) (sym first) ∙ one)
    (ap (λ (m : ℕ). weighed 0 (set (set t j v) (j + s) u) + (0 + (j + s) + 1) * m) (sym second) ∙ two)) same
  where
    sums : (j s u v w a z : ℕ) → a + (0 + j + 1) * u ≡ w + (0 + j + 1) * v → z + (0 + (j + s) + 1) * v ≡ a + (0 + (j + s) + 1) * u
        → z + s * v ≡ w + s * u
    sums j s u v w a z e f = omega arith

-- a block is right under one number only
pub one_place : (b c : ℕ) (x : List ℕ) → b < 98 → c < 98 → Right b x → Right c x → b ≡ c
unfolding tail_of check_of
one_place b c x hb hc p q =
    let e : (b + 1 + weighed 0 (take 508 x)) % 65521 ≡ (c + 1 + weighed 0 (take 508 x)) % 65521 =
    two_same (check_of b (take 508 x)) (check_of c (take 508 x)) (0 ∷ 0 ∷ []) (0 ∷ 0 ∷ []) (sym p ∙ q) in
    omega arith
