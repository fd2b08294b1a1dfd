-- Turning a best strip into the next one, and `next` from what its parts have done. Assumes nothing.
use Rattle.std.specs.Option.{is_some}
use Rattle.std.specs.Prelude.{Option, Some, None}
use mathlib.Core.Path.{◌≡◌, sym, ap, ap₂, ◌∙◌, subst}
use mathlib.Core.Bool.{true, false}
use mathlib.Core.List.{List, ◌∷◌, ◌++◌, append_assoc, map-append}
use Prim.Native.Nat.{ℕ, zero, suc, pred, ◌+◌, ◌*◌, ◌-◌, ◌≤◌, ◌<◌}
use native.Mathlib.Omega.{arith}
use lib.IntN.{ℤ}
use lib.ListN.{length, take, drop, set, length-append, take-append-drop}
use lib.Seq.{set_at, drop_at}
use Rattle.whole.proofs.TestLaws.{true≢false}
use Rattle.ways.specs.Strip.{Step, A, B, steps_a, steps_b, Strip}
use Rattle.ways.specs.Value.{Worths}
use Rattle.ways.specs.Keppel.{also_b, trace}
use Rattle.ways.specs.Best.{Best, NextBest, NoneLeft}
use Rattle.ways.specs.Value.{value}
use Rattle.ways.proofs.Way.{steps_length}
use Rattle.ways.proofs.Greatest.{strip_length}
use Rattle.ways.proofs.Traced.{next_by_turn, none_by_turn}
use Rattle.ways.proofs.TopLaws.{also_b_left}
use Rattle.strip.specs.Bytes.{bytes, byte_of, IsStrip}
use Rattle.strip.proofs.BytesLaws.{bytes_length}
use Rattle.joining.specs.declared.walking.Turn.{Turn}
use Rattle.joining.specs.Cells.{room}
use Rattle.joining.specs.Table.{Tabled}
use Rattle.joining.specs.Walking.{says_a, says_b, TurnOf, turn, nowhere, CanTurn, can, cannot, Marked, Turned, turned}
use Rattle.joining.proofs.MarkLaws.{says_b_lem, filled_leads, filled_trace}
use Rattle.joining.proofs.TurnLaws.{counts_a}

-- ---- where to turn, as the code has it

pub record IsTurn (l : List ℕ) (n : ℕ) (t : List Step) (at i j : ℕ) : Type 0 where
  pub x : List Step
  pub z : List Step
  pub parts : t ≡ x ++ A ∷ z
  pub yes_b : says_b l n (suc (steps_a x)) (steps_b x) ≡ true
  pub earlier : (x' z' : List Step) → t ≡ x' ++ A ∷ z' → length x' < length x → says_b l n (suc (steps_a x')) (steps_b x') ≡ false
  pub is_at : at ≡ length x
  pub is_i : i ≡ suc (steps_a x)
  pub is_j : j ≡ steps_b x

abbrev some_turn : Turn → Option Turn
some_turn u = Some u

pub is_turn : {l : List ℕ} {n : ℕ} {t : List Step} {r : Option Turn} {u : Turn} → TurnOf l n t r → r ≡ Some u → IsTurn l n t u.at u.i u.j
is_turn {u = u} (turn x z p y e) q = record {
  x = x;
  z = z;
  parts = p;
  yes_b = y;
  earlier = e;
  is_at = sym (ap (λ (v : Turn). v.at) (same q));
  is_i = sym (ap (λ (v : Turn). v.i) (same q));
  is_j = sym (ap (λ (v : Turn). v.j) (same q));
}
  where
    same : {v : Turn} → some_turn v ≡ some_turn u → v ≡ u
    same q = cc
is_turn {u = u} (nowhere n) q = absurd (let o : ◌≡◌ {A = ℕ} 0 1 = cc in omega arith)

pub is_nowhere : {l : List ℕ} {n : ℕ} {t : List Step} {r : Option Turn} → TurnOf l n t r → r ≡ None
    → (x z : List Step) → t ≡ x ++ A ∷ z → says_b l n (suc (steps_a x)) (steps_b x) ≡ false
is_nowhere (turn x z p y e) q = absurd (let o : ◌≡◌ {A = ℕ} 0 1 = cc in omega arith)
is_nowhere (nowhere n) q = n

-- whether it can be turned at all
pub can_turn_is : {l : List ℕ} {n : ℕ} {t : List Step} {r : Option Turn} → TurnOf l n t r → CanTurn l n t (is_some r)
can_turn_is (turn x z p y e) = can x z p y e
can_turn_is (nowhere n) = cannot n

-- the pair that is turned into lies inside, and not in the first column
pub record TurnInside (m n at i j : ℕ) : Type 0 where
  pub in_a : i ≤ m
  pub in_b : j ≤ n
  pub some_b : 1 ≤ j
  pub steps : i + (j - 1) ≡ at
  pub below : at < m + n

pub turn_inside : {l : List ℕ} {m n : ℕ} {t : List Step} {at i j : ℕ} → Marked l m n → Strip m n t → IsTurn l n t at i j → TurnInside m n at i j
turn_inside {l} {m} {n} {t} {at} {i} {j} k r u =
    let c = counts_a u.x u.z r u.parts in
    let up : suc (steps_a u.x) ≤ m = omega (arith, c.0) in
    let b : 1 ≤ steps_b u.x = column (steps_b u.x) (steps_a u.x) up u.yes_b in
    record {
      in_a = omega (arith, u.is_i, c.0);
      in_b = omega (arith, u.is_j, c.1);
      some_b = omega (arith, u.is_j);
      steps = omega (arith, u.is_i, u.is_j, u.is_at, steps_length u.x);
      below = omega (arith, u.is_at, strip_length r, ap length u.parts, length-append u.x (A ∷ u.z));
    }
  where
    column : (b a : ℕ) → suc a ≤ m → says_b l n (suc a) b ≡ true → 1 ≤ b
    column zero a h e = absurd (true≢false (sym e ∙ k.no_b (suc a) h))
    column (suc b) a h e = omega arith

-- ---- the bytes of the turned strip

-- the front of the slice, and the rest
split_front : (strip : List ℕ) (len : ℕ) (t : List Step) → take len strip ≡ bytes t → strip ≡ bytes t ++ drop len strip
split_front strip len t e = sym (take-append-drop len strip) ∙ ap (λ (r : List ℕ). r ++ drop len strip) e

turned_rest : (strip : List ℕ) (len : ℕ) (t x z : List Step) → take len strip ≡ bytes t → t ≡ x ++ A ∷ z
    → drop (length x) (set strip (length x) 1) ≡ byte_of B ∷ (bytes z ++ drop len strip)
turned_rest strip len t x z w e =
    let whole : strip ≡ bytes x ++ 0 ∷ (bytes z ++ drop len strip) =
    split_front strip len t w ∙ ap (λ (s : List Step). bytes s ++ drop len strip) e
    ∙ ap (λ (r : List ℕ). r ++ drop len strip) (map-append byte_of x (A ∷ z))
    ∙ append_assoc (bytes x) (0 ∷ bytes z) (drop len strip) in
    ap (λ (r : List ℕ). drop (length x) (set r (length x) 1)) whole
    ∙ ap (drop (length x)) (set_at (bytes x) 0 (bytes z ++ drop len strip) 1 (length x) (bytes_length x))
    ∙ drop_at (bytes x) (1 ∷ (bytes z ++ drop len strip)) (length x) (bytes_length x)

pub turned_is : {l : List ℕ} {m n : ℕ} {strip strip' : List ℕ} {at i j : ℕ} (s : IsStrip m n (take (m + n) strip))
    → (u : IsTurn l n s.steps at i j) → TurnInside m n at i j
    → strip' ≡ bytes (trace (says_a l n) (i + (j - 1)) i (j - 1)) ++ drop (i + (j - 1)) (set strip at 1)
    → Turned l n s.steps strip strip' true
turned_is {l} {m} {n} {strip} {strip'} {at} {i} {j} s u d e =
    turned u.x u.z u.parts u.yes_b u.earlier
    (e ∙ ap₂ (λ (p q : List ℕ). p ++ q) front rest
    ∙ sym (append_assoc (bytes new) (byte_of B ∷ bytes u.z) (drop (length s.steps) strip))
    ∙ ap (λ (r : List ℕ). r ++ drop (length s.steps) strip) (sym (map-append byte_of new (B ∷ u.z))))
  where
    new : List Step
    new = trace (says_a l n) (length u.x) (suc (steps_a u.x)) (pred (steps_b u.x))

    k : i + (j - 1) ≡ length u.x
    k = d.steps ∙ u.is_at

    low : j - 1 ≡ pred (steps_b u.x)
    low = omega (arith, u.is_j)

    front : bytes (trace (says_a l n) (i + (j - 1)) i (j - 1)) ≡ bytes new
    front = ap bytes (ap (λ (q : ℕ). trace (says_a l n) q i (j - 1)) k ∙ ap₂ (λ (a b : ℕ). trace (says_a l n) (length u.x) a b) u.is_i low)

    rest : drop (i + (j - 1)) (set strip at 1) ≡ byte_of B ∷ (bytes u.z ++ drop (length s.steps) strip)
    rest =
        ap₂ (λ (a b : ℕ). drop a (set strip b 1)) k u.is_at ∙ turned_rest strip (m + n) s.steps u.x u.z s.written u.parts
        ∙ ap (λ (q : ℕ). byte_of B ∷ (bytes u.z ++ drop q strip)) (sym (strip_length s.strip))

-- ---- a filled table is marked, and the turned strip is the next one

pub filled_marked : {w : Worths} {m n : ℕ} {l l' : List ℕ} {r : ℤ} → Tabled w m n l l' r → m ≤ 250 → n ≤ 250
    → room ((m + 1) * (n + 1)) ≤ length l → Marked l' m n
filled_marked {w} f h k g = record {
  leads = filled_leads f h k g;
  no_b = λ a q. says_b_lem f a 0 q (omega arith) ∙ also_b_left w a;
}

-- a step A of a strip leads into a pair of the table
also : {w : Worths} {m n : ℕ} {l l' : List ℕ} {r : ℤ} {t : List Step} → Tabled w m n l l' r → Strip m n t → (x z : List Step) → t ≡ x ++ A ∷ z
    → says_b l' n (suc (steps_a x)) (steps_b x) ≡ also_b w (suc (steps_a x)) (steps_b x)
also f s x z e = let c = counts_a x z s e in says_b_lem f (suc (steps_a x)) (steps_b x) (omega (arith, c.0)) c.1

pub turned_next : {w : Worths} {m n : ℕ} {l l' : List ℕ} {r : ℤ} {t : List Step} → Tabled w m n l l' r → Best (Strip m n) (value w) t
    → (x z : List Step) → t ≡ x ++ A ∷ z → says_b l' n (suc (steps_a x)) (steps_b x) ≡ true
    → ((x' z' : List Step) → t ≡ x' ++ A ∷ z' → length x' < length x → says_b l' n (suc (steps_a x')) (steps_b x') ≡ false)
    → NextBest (Strip m n) (value w) t (trace (says_a l' n) (length x) (suc (steps_a x)) (pred (steps_b x)) ++ B ∷ z)
turned_next {w} {m} {n} {l} {l'} {r} {t} f b x z e y early =
    let c = counts_a x z b.is e in
    subst (λ (s : List Step). NextBest (Strip m n) (value w) t (s ++ B ∷ z))
    (sym (filled_trace f (length x) (suc (steps_a x)) (pred (steps_b x)) (omega (arith, c.0)) (omega (arith, c.1))))
    (next_by_turn w b x z e (sym (also f b.is x z e) ∙ y) (λ x' z' e' h. sym (also f b.is x' z' e') ∙ early x' z' e' h))

pub left_none : {w : Worths} {m n : ℕ} {l l' : List ℕ} {r : ℤ} {t : List Step} → Tabled w m n l l' r → Best (Strip m n) (value w) t
    → ((x z : List Step) → t ≡ x ++ A ∷ z → says_b l' n (suc (steps_a x)) (steps_b x) ≡ false) → NoneLeft (Strip m n) (value w) t
left_none {w} f b none = none_by_turn w b (λ x z e. sym (also f b.is x z e) ∙ none x z e)
