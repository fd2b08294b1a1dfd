-- Looking along a strip for the earliest step that can be turned: up to step k none can, and the pair reached counts the steps so
-- far. Assumes nothing.
use Rattle.std.specs.Prelude.{Option, Some, None}
use mathlib.Core.Path.{◌≡◌, refl, sym, ap, ap₂, ◌∙◌, subst}
use mathlib.Core.Bool.{true, false}
use mathlib.Core.List.{List, [], ◌∷◌, ◌++◌, append_assoc, map-append}
use Prim.Native.Nat.{ℕ, suc, ◌+◌, ◌≤◌, ◌<◌}
use native.Mathlib.Decide.{ℕ_discrete}
use native.Mathlib.Nat.{mul-le-mul_right}
use native.Mathlib.Numerals.{add-one}
use native.Mathlib.Omega.{arith}
use lib.ListN.{length, get_or, take, length-append}
use lib.Seq.{get_or-take, get_or_at, take_at, drop_at}
use Rattle.whole.proofs.TestLaws.{true≢false}
use Rattle.ways.specs.Strip.{Step, A, B, steps_a, steps_b, Strip}
use Rattle.ways.proofs.Way.{steps_append}
use Rattle.ways.proofs.Greatest.{strip_length}
use Rattle.strip.specs.Bytes.{bytes, byte_of, IsStrip}
use Rattle.strip.proofs.BytesLaws.{bytes_length}
use Rattle.joining.specs.declared.walking.Look.{Look}
use Rattle.joining.specs.declared.walking.Turn.{Turn}
use Rattle.joining.specs.Cells.{room}
use Rattle.joining.specs.Table.{cell_at}
use Rattle.joining.specs.Walking.{says_b, TurnOf, turn, nowhere, Looked, LookReady}
use Rattle.joining.proofs.CellLaws.{room_fits}

pub record TurnSo (l : List ℕ) (n : ℕ) (t : List Step) (k i j : ℕ) : Type 0 where
  pub pre : List Step
  pub post : List Step
  pub parts : t ≡ pre ++ post
  pub long : length pre ≡ k
  pub is_i : i ≡ steps_a pre
  pub is_j : j ≡ steps_b pre
  pub none : (x z : List Step) → t ≡ x ++ A ∷ z → length x < k → says_b l n (suc (steps_a x)) (steps_b x) ≡ false

pub turn_begun : (l : List ℕ) (n : ℕ) (t : List Step) → TurnSo l n t 0 0 0
unfolding steps_a steps_b
turn_begun l n t = record {
  pre = [];
  post = t;
  parts = refl;
  long = refl;
  is_i = refl;
  is_j = refl;
  none = λ x z e h. absurd (below x h);
}
  where
    below : (x : List Step) → length x < 0 → ⊥
    below x h = omega arith

-- ---- the step at k

pub record StepAt (t pre : List Step) (byte : ℕ) : Type 0 where
  pub step : Step
  pub rest : List Step
  pub parts : t ≡ pre ++ step ∷ rest
  pub is_byte : byte ≡ byte_of step

step_of : (t pre post : List Step) (strip : List ℕ) (len k : ℕ) → take len strip ≡ bytes t → t ≡ pre ++ post → length pre ≡ k → k < len → k < length t
    → StepAt t pre (get_or strip k 0)
step_of t pre [] strip len k w e p h g = absurd (short (omega (arith, ap length e, length-append pre [])))
  where
    short : length t ≤ length pre → ⊥
    short q = omega arith
step_of t pre (x ∷ rest) strip len k w e p h g = record {
  step = x;
  rest = rest;
  parts = e;
  is_byte = sym (get_or-take len strip k 0 h) ∙ ap (λ (r : List ℕ). get_or r k 0) (w ∙ ap bytes e ∙ map-append byte_of pre (x ∷ rest))
      ∙ get_or_at (bytes pre) (byte_of x) (bytes rest) 0 k (bytes_length pre ∙ p);
}

pub turn_step : {l : List ℕ} {m n : ℕ} (strip : List ℕ) {k i j : ℕ} (s : IsStrip m n (take (m + n) strip)) (so : TurnSo l n s.steps k i j)
    → k < m + n → StepAt s.steps so.pre (get_or strip k 0)
turn_step {m = m} {n = n} strip {k = k} s so h =
    step_of s.steps so.pre so.post strip (m + n) k s.written so.parts so.long h
    (omega (arith, strip_length s.strip))

-- the counts of the whole, of its front and of one step more
pub counts_a : {m n : ℕ} {t : List Step} (pre rest : List Step) → Strip m n t → t ≡ pre ++ A ∷ rest → (steps_a pre + 1 ≤ m) × (steps_b pre ≤ n)
unfolding steps_a steps_b
counts_a pre rest r e =
    let both = steps_append pre (A ∷ rest) in
    (omega (arith, both.0, r.has_a, ap steps_a e), omega (arith, both.1, r.has_b, ap steps_b e))

counts_b : {m n : ℕ} {t : List Step} (pre rest : List Step) → Strip m n t → t ≡ pre ++ B ∷ rest → (steps_a pre ≤ m) × (steps_b pre + 1 ≤ n)
unfolding steps_a steps_b
counts_b pre rest r e =
    let both = steps_append pre (B ∷ rest) in
    (omega (arith, both.0, r.has_a, ap steps_a e), omega (arith, both.1, r.has_b, ap steps_b e))

pub turn_ready : {l : List ℕ} {m n : ℕ} (strip : List ℕ) {k i j : ℕ} → m ≤ 250 → n ≤ 250 → room (cell_at n m n + 1) ≤ length l
    → (s : IsStrip m n (take (m + n) strip)) (so : TurnSo l n s.steps k i j) → k < m + n → LookReady l n (get_or strip k 0) i j
turn_ready {l} {m} {n} strip {k} {i} {j} fa fb long s so h = go (turn_step strip s so h)
  where
    go : StepAt s.steps so.pre (get_or strip k 0) → LookReady l n (get_or strip k 0) i j
    go p = by p.step p.rest p.parts p.is_byte
      where
        other : ◌≡◌ {A = ℕ} 1 0 → ⊥
        other e = omega arith

        by : (x : Step) (rest : List Step) → s.steps ≡ so.pre ++ x ∷ rest → get_or strip k 0 ≡ byte_of x → LookReady l n (get_or strip k 0) i j
        by A rest e q =
            let c = counts_a so.pre rest s.strip e in
            let up : i + 1 ≤ m = omega (arith, so.is_i, c.0) in
            record {
              few = omega arith;
              few_b = fb;
              in_row = omega (arith, so.is_j, c.1);
              long = λ z. (omega arith, room_fits {b = cell_at n m n + 1} (omega (arith, mul-le-mul_right {m = i + 1} {n = m} (n + 1) up, so.is_j, c.1)) long);
            }
        by B rest e q =
            let c = counts_b so.pre rest s.strip e in
            record {
              few = omega (arith, so.is_i, c.0);
              few_b = fb;
              in_row = omega (arith, so.is_j, c.1);
              long = λ z. absurd (other (sym q ∙ z));
            }

-- two splits of one list at the same length are the same
same_split : (t x z pre rest : List Step) (y : Step) → t ≡ x ++ A ∷ z → t ≡ pre ++ y ∷ rest → length x ≡ length pre → (x ≡ pre) × (A ∷ z ≡ y ∷ rest)
same_split t x z pre rest y e q p = (
  sym (take_at x (A ∷ z) (length x) refl) ∙ ap (take (length x)) (sym e ∙ q) ∙ take_at pre (y ∷ rest) (length x) (sym p),
  sym (drop_at x (A ∷ z) (length x) refl) ∙ ap (lib.ListN.drop (length x)) (sym e ∙ q) ∙ drop_at pre (y ∷ rest) (length x) (sym p),
)

one_more : (pre : List Step) (y : Step) (rest : List Step) → pre ++ y ∷ rest ≡ (pre ++ y ∷ []) ++ rest
one_more pre y rest = sym (append_assoc pre (y ∷ []) rest)

pub turn_more : {l : List ℕ} {n : ℕ} {t : List Step} {k i j byte : ℕ} {r : Look} (so : TurnSo l n t k i j) → StepAt t so.pre byte
    → Looked l n byte i j r → r.turns ≡ false → TurnSo l n t (k + 1) r.i r.j
unfolding steps_a steps_b
turn_more {l} {n} {t} {k} {i} {j} {byte} {r} so p look no-turn = go p.step p.rest p.parts p.is_byte
  where
    snoc_long : (y : Step) → length (so.pre ++ y ∷ []) ≡ k + 1
    snoc_long y = length-append so.pre (y ∷ []) ∙ omega (arith, so.long)

    go : (y : Step) (rest : List Step) → t ≡ so.pre ++ y ∷ rest → byte ≡ byte_of y → TurnSo l n t (k + 1) r.i r.j
    go A rest e q =
        let on = look.on_a q in
        let both = steps_append so.pre (A ∷ []) in
        record {
          pre = so.pre ++ A ∷ [];
          post = rest;
          parts = e ∙ one_more so.pre A rest;
          long = snoc_long A;
          is_i = on.0 ∙ omega (arith, so.is_i, both.0);
          is_j = on.1 ∙ omega (arith, so.is_j, both.1);
          none = λ x z d h. at x z d h (ℕ_discrete (length x) k);
        }
      where
        at : (x z : List Step) → t ≡ x ++ A ∷ z → length x < k + 1 → Dec (length x ≡ k) → says_b l n (suc (steps_a x)) (steps_b x) ≡ false
        at x z d h (yes c) =
            let same : x ≡ so.pre = (same_split t x z so.pre rest A d e (c ∙ sym so.long)).0 in
            ap₂ (says_b l n) (ap (λ (v : List Step). suc (steps_a v)) same ∙ ap suc (sym so.is_i) ∙ sym (add-one i)) (ap steps_b same ∙ sym so.is_j)
            ∙ sym (look.on_a q).2 ∙ no-turn
        at x z d h (no c) = so.none x z d (omega arith)
    go B rest e q =
        let on = look.on_b q in
        let both = steps_append so.pre (B ∷ []) in
        record {
          pre = so.pre ++ B ∷ [];
          post = rest;
          parts = e ∙ one_more so.pre B rest;
          long = snoc_long B;
          is_i = on.0 ∙ omega (arith, so.is_i, both.0);
          is_j = on.1 ∙ omega (arith, so.is_j, both.1);
          none = λ x z d h. at x z d h (ℕ_discrete (length x) k);
        }
      where
        clash : (z rest : List Step) → A ∷ z ≡ B ∷ rest → ⊥
        clash z rest e = let o : ◌≡◌ {A = ℕ} 0 1 = cc in omega arith

        at : (x z : List Step) → t ≡ x ++ A ∷ z → length x < k + 1 → Dec (length x ≡ k) → says_b l n (suc (steps_a x)) (steps_b x) ≡ false
        at x z d h (yes c) = absurd (clash z rest (same_split t x z so.pre rest B d e (c ∙ sym so.long)).1)
        at x z d h (no c) = so.none x z d (omega arith)

abbrev pub turn_at : ℕ → ℕ → ℕ → Option Turn
turn_at at i j = Some (record { at = at; i = i; j = j })

pub turn_found : {l : List ℕ} {n : ℕ} {t : List Step} {k i j byte : ℕ} {r : Look} (so : TurnSo l n t k i j) → StepAt t so.pre byte
    → Looked l n byte i j r → r.turns ≡ true → TurnOf l n t (turn_at k r.i r.j)
turn_found {l} {n} {t} {k} {i} {j} {byte} {r} so p look turns = go p.step p.rest p.parts p.is_byte
  where
    go : (y : Step) (rest : List Step) → t ≡ so.pre ++ y ∷ rest → byte ≡ byte_of y → TurnOf l n t (turn_at k r.i r.j)
    go A rest e q =
        let on = look.on_a q in
        let upI : r.i ≡ suc (steps_a so.pre) = on.0 ∙ add-one i ∙ ap suc so.is_i in
        let upJ : r.j ≡ steps_b so.pre = on.1 ∙ so.is_j in
        let same : turn_at (length so.pre) (suc (steps_a so.pre)) (steps_b so.pre) ≡ turn_at k r.i r.j = cc (so.long, upI, upJ) in
        subst (TurnOf l n t) same
        (turn so.pre rest e
        (ap₂ (says_b l n) (sym (ap suc so.is_i) ∙ sym (add-one i)) (sym so.is_j) ∙ sym on.2 ∙ turns)
        (λ x z d h. so.none x z d (omega (arith, so.long))))
    go B rest e q = absurd (true≢false (sym turns ∙ (look.on_b q).2))

pub turn_none : {l : List ℕ} {m n : ℕ} {t : List Step} {k i j : ℕ} → Strip m n t → m + n ≤ k → TurnSo l n t k i j → TurnOf l n t None
turn_none {t = t} r h so =
    nowhere (λ x z e. so.none x z e (omega (arith, strip_length r, ap length e, length-append x (A ∷ z))))
