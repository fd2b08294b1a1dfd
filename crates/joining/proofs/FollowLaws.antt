-- `next`, from what its parts have done. Assumes nothing.
use Rattle.std.specs.Prelude.{Result, Ok, Err, Some, None}
use mathlib.Core.Path.{◌≡◌, refl, sym, ap, ap₂, ◌∙◌, subst, subst₂}
use mathlib.Core.Bool.{Bool, true, false}
use mathlib.Core.List.{List, ◌∷◌, ◌++◌}
use Prim.Native.Nat.{ℕ, suc, pred, ◌+◌, ◌*◌}
use native.Mathlib.Omega.{arith}
use lib.IntN.{ℤ}
use lib.ListN.{length, take, drop, replicate}
use lib.Signed.{◌<ℤ◌, ◌≤ℤ◌, lt_z}
use mir.Syntax.{w64}
use mir.Val.{to_z, of_z}
use Rattle.whole.specs.Between.{Within}
use Rattle.whole.proofs.Machine.{held, from}
use Rattle.strip.proofs.ValueLaws.{W_within}
use Rattle.whole.proofs.Order.{lt_z_true, lt_z_false, ≤ℤ-antisym}
use Rattle.fault.specs.declared.Fault.TheVariants.{Below}
use Rattle.fault.specs.declared.Refusal.{Refusal}
use Rattle.trace.specs.Points.{count}
use Rattle.fault.specs.Gates.{at}
use Rattle.strip.specs.Pair.{PairCounts}
use Rattle.strip.proofs.PairLaws.{refused_not_pair}
use Rattle.ways.specs.Strip.{Step, B, steps_a, steps_b, Strip}
use Rattle.ways.specs.Best.{Best}
use Rattle.ways.specs.Keppel.{top, trace, traced}
use Rattle.ways.specs.Value.{value}
use Rattle.ways.proofs.Greatest.{greatest, attained, best_value, value_best, strip_length}
use Rattle.strip.specs.Worth.{worths, W}
use Rattle.strip.specs.Bytes.{bytes, IsStrip}
use Rattle.strip.specs.Judging.{StripJudged}
use Rattle.strip.proofs.JudgingLaws.{Refusing, traces, no_strip_lem, refusing}
use Rattle.strip.specs.Judging as Judging
use Rattle.joining.specs.Cells.{room}
use Rattle.joining.specs.Table.{Tabled}
use Rattle.joining.specs.Walking.{says_a, Turned, turned, left}
use Rattle.joining.specs.Answers.{Enough, HandedIn, work_bytes, NextAnswer}
use Rattle.joining.proofs.NextCases.{below, next, none_left}
use Rattle.joining.proofs.CellLaws.{room_all}
use Rattle.joining.proofs.NextLaws.{turned_next, left_none}

-- ---- what judging the strip handed in has told

pub not_handed : {a b : List ℤ} {m n : ℕ} (l : List ℕ) {r : Result ℤ Refusal} {q : Refusal} → PairCounts a b m n
    → StripJudged a b (take (m + n) l) r → r ≡ Err q → HandedIn a b l → ⊥
not_handed {a} {b} {m} {n} l p x e s = go (refusing (subst (StripJudged a b (take (m + n) l)) e x))
  where
    go : {q : Refusal} → Refusing a b (take (m + n) l) q → ⊥
    go (traces y) = refused_not_pair y p.pair
    go (no_strip_lem _ _ not-one) =
        not-one (subst (λ (k : ℕ). IsStrip (count a) (count b) (take k l)) (sym (ap₂ ◌+◌ p.count_a p.count_b)) s)

-- it is a strip, and v its value
pub record Handed (a b : List ℤ) (m n : ℕ) (l : List ℕ) (v : ℤ) : Type 0 where
  pub strip : IsStrip m n (take (m + n) l)
  pub is_value : v ≡ W a b strip.steps

abbrev valued : ℤ → Result ℤ Refusal
valued v = Ok v

pub handed : {a b : List ℤ} {m n : ℕ} {l : List ℕ} {r : Result ℤ Refusal} {v : ℤ} → PairCounts a b m n → StripJudged a b (take (m + n) l) r
    → r ≡ Ok v → Handed a b m n l v
handed {v = v} p (Judging.refused x) e = absurd (let o : ◌≡◌ {A = ℕ} 0 1 = cc in omega arith)
handed {a} {b} {m} {n} {l} {v = v} p (Judging.accepted x s) e = record {
  strip = record {
    steps = s.steps;
    written = s.written;
    strip = subst₂ (λ (i j : ℕ). Strip i j s.steps) (sym p.count_a) (sym p.count_b) s.strip;
  };
  is_value = sym (same e);
}
  where
    same : {u : ℤ} → valued u ≡ valued v → u ≡ v
    same e = cc

-- the same for the numbers of points themselves
pub as_handed : {a b : List ℤ} {m n : ℕ} (l : List ℕ) → PairCounts a b m n → IsStrip m n (take (m + n) l) → HandedIn a b l
as_handed {a} {b} {m} {n} l p s = record {
  steps = s.steps;
  written = ap (λ (k : ℕ). take k l) (sym (ap₂ ◌+◌ p.count_a p.count_b)) ∙ s.written;
  strip = subst₂ (λ (i j : ℕ). Strip i j s.steps) p.count_a p.count_b s.strip;
}

-- ---- BELOW

-- the table's last value is that of a strip
attains : {a b : List ℤ} {m n : ℕ} {l l' : List ℕ} {g : ℤ} → PairCounts a b m n → Tabled (worths a b) m n l l' g
    → g ≡ W a b (traced (worths a b) (count a) (count b))
attains {a} {b} p f =
    f.value ∙ ap₂ (top (worths a b)) p.count_a p.count_b ∙ sym (attained (worths a b) (count a) (count b)).1

pub below_is : {a b : List ℤ} {m n : ℕ} {strip work l l' : List ℕ} {v g : ℤ} → PairCounts a b m n → Enough a b strip work
    → Handed a b m n strip v → Tabled (worths a b) m n l l' g → lt_z v g ≡ true
    → NextAnswer a b strip work strip work (Err (at Below 0))
unfolding as_handed
below_is {a} {b} {strip = strip} {v = v} {g = g} p e h f less =
    below p.pair e (as_handed strip p h.strip) (attained (worths a b) (count a) (count b)).0
    (subst₂ (λ (x y : ℤ). x <ℤ y) h.is_value (attains p f) (lt_z_true v g less))
    (record { strip_same = refl; work_same = refl })

-- ---- the strip handed in is best

best_of : {a b : List ℤ} {m n : ℕ} {strip l l' : List ℕ} {v g : ℤ} → PairCounts a b m n → (h : Handed a b m n strip v)
    → Tabled (worths a b) m n l l' g → lt_z v g ≡ false → Best (Strip m n) (value (worths a b)) h.strip.steps
best_of {a} {b} {v = v} {g = g} p h f same =
    value_best (worths a b) h.strip.strip
    (≤ℤ-antisym (greatest (worths a b) h.strip.strip)
    (subst₂ (λ (x y : ℤ). x ≤ℤ y) f.value h.is_value (lt_z_false v g same)))

pub record NextParts (a b : List ℤ) (strip work strip' work' : List ℕ) (v g : ℤ) (turns : Bool) (l l' : List ℕ) (m n : ℕ) : Type 0 where
  pub handed : Handed a b m n strip v
  pub filled : Tabled (worths a b) m n l l' g
  pub not_less : lt_z v g ≡ false
  pub turned : Turned l' n handed.strip.steps strip strip' turns
  pub zeros : work' ≡ replicate (room ((m + 1) * (n + 1))) 0 ++ drop (room ((m + 1) * (n + 1))) work

parts_at : {a b : List ℤ} {m n : ℕ} {strip work strip' work' l l' : List ℕ} {v g : ℤ} {turns : Bool} → PairCounts a b m n
    → NextParts a b strip work strip' work' v g turns l l' m n → NextParts a b strip work strip' work' v g turns l l' (count a) (count b)
parts_at {a} {b} {m} {n} {strip} {work} {strip'} {work'} {l} {l'} {v} {g} {turns} p q =
    subst₂ (λ (x y : ℕ). NextParts a b strip work strip' work' v g turns l l' x y) p.count_a p.count_b q

pub next_done : {a b : List ℤ} {m n : ℕ} {strip work strip' work' l l' : List ℕ} {v g : ℤ} → PairCounts a b m n → Enough a b strip work
    → NextParts a b strip work strip' work' v g true l l' m n → NextAnswer a b strip work strip' work' (Ok (Some g))
unfolding as_handed
next_done {a} {b} {m} {n} {strip} {work} {strip'} {work'} {l} {l'} {v} {g} p room-enough parts = go (parts_at p parts)
  where
    self : PairCounts a b (count a) (count b)
    self = record { pair = p.pair; count_a = refl; count_b = refl }

    go : NextParts a b strip work strip' work' v g true l l' (count a) (count b) → NextAnswer a b strip work strip' work' (Ok (Some g))
    go q = by q.turned
      where
        s : HandedIn a b strip
        s = as_handed strip self q.handed.strip

        is_best : Best (Strip (count a) (count b)) (W a b) q.handed.strip.steps
        is_best = best_of self q.handed q.filled q.not_less

        by : Turned l' (count b) q.handed.strip.steps strip strip' true → NextAnswer a b strip work strip' work' (Ok (Some g))
        by (turned x z e y early front) =
            let t : List Step = trace (says_a l' (count b)) (length x) (suc (steps_a x)) (pred (steps_b x)) ++ B ∷ z in
            let after = turned_next q.filled is_best x z e y early in
            subst (λ (u : ℤ). NextAnswer a b strip work strip' work' (Ok (Some u)))
            (best_value (worths a b) after.best ∙ sym q.filled.value)
            (next p.pair room-enough s is_best t after
            (record { front = front ∙ ap (λ (k : ℕ). bytes t ++ drop k strip) (strip_length q.handed.strip.strip) })
            (record { zeros = q.zeros ∙ room_all (work_bytes a b) work work refl }))

pub none_done : {a b : List ℤ} {m n : ℕ} {strip work strip' work' l l' : List ℕ} {v g : ℤ} → PairCounts a b m n → Enough a b strip work
    → NextParts a b strip work strip' work' v g false l l' m n → NextAnswer a b strip work strip' work' (Ok None)
unfolding as_handed
none_done {a} {b} {m} {n} {strip} {work} {strip'} {work'} {l} {l'} {v} {g} p room-enough parts = go (parts_at p parts)
  where
    self : PairCounts a b (count a) (count b)
    self = record { pair = p.pair; count_a = refl; count_b = refl }

    go : NextParts a b strip work strip' work' v g false l l' (count a) (count b) → NextAnswer a b strip work strip' work' (Ok None)
    go q = by q.turned
      where
        s : HandedIn a b strip
        s = as_handed strip self q.handed.strip

        is_best : Best (Strip (count a) (count b)) (W a b) q.handed.strip.steps
        is_best = best_of self q.handed q.filled q.not_less

        by : Turned l' (count b) q.handed.strip.steps strip strip' false → NextAnswer a b strip work strip' work' (Ok None)
        by (left none same) =
            none_left p.pair room-enough s is_best (left_none q.filled is_best none) same
            (record { zeros = q.zeros ∙ room_all (work_bytes a b) work work refl })

-- ---- in the machine's words

pub turned_as : {l : List ℕ} {n : ℕ} {t : List Step} {strip strip' : List ℕ} {r r' : Bool} → r ≡ r' → Turned l n t strip strip' r
    → Turned l n t strip strip' r'
turned_as {l} {n} {t} {strip} {strip'} e x = subst (Turned l n t strip strip') e x

-- the value of a strip that was handed in, read back
pub value_back : {a b : List ℤ} {m n : ℕ} {l : List ℕ} {v : ℤ} → PairCounts a b m n → Handed a b m n l v → to_z w64 (of_z w64 v) ≡ v
value_back {a} {b} {v = v} p h =
    (held w64
    (from refl
    (subst (Within 20000000000000) (sym h.is_value)
    (W_within p.pair (subst₂ (λ (i j : ℕ). Strip i j h.strip.steps) p.count_a p.count_b h.strip.strip))))
    tt).is
