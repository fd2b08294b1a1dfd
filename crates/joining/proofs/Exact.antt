-- Two outcomes that a contract allows for one input coincide: the answer, the place and every lent byte. Gates stop with one refusal, and
-- what they stop has not passed them; behind them what is given is unique. Assumes nothing.
use Rattle.std.specs.Prelude.{Result, Ok, Err, Some}
use Rattle.joining.specs.Answers.{Followed}
use mathlib.Core.Path.{◌≡◌, refl, sym, ap, ◌∙◌, subst}
use mathlib.Core.List.{List, ◌∷◌, ◌++◌}
use mathlib.Core.Bool.{Bool}
use Prim.Native.Nat.{ℕ, ◌*◌, ◌≤◌}
use native.Mathlib.Omega.{arith}
use lib.IntN.{ℤ}
use lib.ListN.{length, take, drop, length-append}
use lib.Seq.{take_at}
use Rattle.fault.specs.declared.Refusal.{Refusal}
use Rattle.fault.specs.Gates.{Stopped, Passed}
use Rattle.fault.proofs.GateLaws.{due_single, one_stop, stopped_not_passed}
use Rattle.strip.proofs.PairLaws.{traces_single}
use Rattle.ways.specs.Strip.{Step}
use Rattle.ways.proofs.Unique.{first_unique, next_unique, next_or_none_not_both, best_same, listed_unique}
use Rattle.strip.specs.Worth.{W}
use Rattle.strip.specs.Bytes.{bytes}
use Rattle.strip.proofs.BytesLaws.{same_steps}
use Rattle.joining.specs.Answers.{NextOf, NoneLeftOf, HandedIn, strip_bytes, Given, Cleared, Untouched, best_gates, next_gates, BestAnswer, best, NextAnswer, next, none_left}
use Rattle.joining.specs.Answers as Answers
use Rattle.joining.specs.Listing.{Ran, run_of}
use Rattle.joining.specs.Listing.{Beginning, all, some, lined, list_gates, ListAnswer, listed}
use Rattle.joining.specs.Listing as Listing
use Rattle.joining.specs.Outcomes.{Same, SameBeginning}

abbrev next_of : ℤ → Followed
next_of v = Ok (Some v)

untouched : {X : Type 0} {r r' : X} {strip work s s' w w' : List ℕ} → r ≡ r' → Untouched strip work s w → Untouched strip work s' w' → Same r r' s s' w w'
untouched e u v = record { answer = e; strips = u.strip_same ∙ sym v.strip_same; works = u.work_same ∙ sym v.work_same }

cleared : {a b : List ℤ} {work w w' : List ℕ} → Cleared a b work w → Cleared a b work w' → w ≡ w'
cleared c d = c.zeros ∙ sym d.zeros

front : {a b : List ℤ} {s t : List Step} {strip u v : List ℕ} → s ≡ t → Given a b s strip u → Given a b t strip v → u ≡ v
front {a} {b} {strip = strip} e g h =
    g.front ∙ ap (λ (x : List Step). bytes x ++ drop (strip_bytes a b) strip) e ∙ sym h.front

module _ (a b : List ℤ) (strip : List ℕ) where
  not_both : (s t : HandedIn a b strip) {u : List Step} → NextOf a b s.steps u → NoneLeftOf a b t.steps → ⊥
  not_both s t x y = next_or_none_not_both x (subst (NoneLeftOf a b) (same_steps t s) y)

module _ {a b : List ℤ} {strip work : List ℕ} where
  pub best_unique : {r r' : Result ℤ Refusal} {s s' w w' : List ℕ} → BestAnswer a b strip work s w r → BestAnswer a b strip work s' w' r' → Same r r' s s' w w'
  best_unique (Answers.BestAnswer.refused {r = r} x u) (Answers.BestAnswer.refused {r = q} y v) =
      untouched (ap Err (one_stop (best_gates a b strip work) (traces_single, (due_single, tt)) r q x y)) u v
  best_unique (Answers.BestAnswer.refused {r = r} x u) (best p s f g c) = absurd (stopped_not_passed (best_gates a b strip work) r x p)
  best_unique (best p s f g c) (Answers.BestAnswer.refused {r = r} x u) = absurd (stopped_not_passed (best_gates a b strip work) r x p)
  best_unique (best p₁ s₁ f₁ g₁ c₁) (best p₂ s₂ f₂ g₂ c₂) =
      let t = first_unique f₁ f₂ in
      record { answer = ap (λ (x : List Step). Ok (W a b x)) t; strips = front t g₁ g₂; works = cleared c₁ c₂ }

  -- what is stopped is neither a next one nor the end
  stopped : {r : Refusal} {X : Type 0} → Stopped (next_gates a b strip work) r → Passed (next_gates a b strip work) → X
  stopped {r} x p = absurd (stopped_not_passed (next_gates a b strip work) r x p)

  pub followed_unique : {r r' : Followed} {s s' w w' : List ℕ} → NextAnswer a b strip work s w r → NextAnswer a b strip work s' w' r' → Same r r' s s' w w'
  followed_unique (Answers.NextAnswer.refused {r = r} x u) (Answers.NextAnswer.refused {r = q} y v) =
      untouched (ap Err (one_stop (next_gates a b strip work) (traces_single, (due_single, (due_single, (due_single, tt)))) r q x y)) u v
  followed_unique (Answers.NextAnswer.refused x u) (next p s t f g c) = stopped x p
  followed_unique (Answers.NextAnswer.refused x u) (none_left p s f k c) = stopped x p
  followed_unique (next p s t f g c) (Answers.NextAnswer.refused x u) = stopped x p
  followed_unique (none_left p s f k c) (Answers.NextAnswer.refused x u) = stopped x p
  followed_unique (next p₁ s₁ t₁ f₁ g₁ c₁) (next p₂ s₂ t₂ f₂ g₂ c₂) =
      let t = next_unique f₁ (subst (λ (v : List Step). NextOf a b v t₂) (same_steps s₂.handed s₁.handed) f₂) in
      record { answer = ap (λ (y : List Step). next_of (W a b y)) t; strips = front t g₁ g₂; works = cleared c₁ c₂ }
  followed_unique (next p₁ s₁ t₁ f₁ g₁ c₁) (none_left p₂ s₂ f₂ k₂ c₂) = absurd (not_both a b strip s₁.handed s₂.handed f₁ f₂)
  followed_unique (none_left p₁ s₁ f₁ k₁ c₁) (next p₂ s₂ t₂ f₂ g₂ c₂) = absurd (not_both a b strip s₂.handed s₁.handed f₂ f₁)
  followed_unique (none_left p₁ s₁ f₁ k₁ c₁) (none_left p₂ s₂ f₂ k₂ c₂) = record { answer = refl; strips = k₁ ∙ sym k₂; works = cleared c₁ c₂ }

-- ---- a run of strips

too_long : (k l : List (List Step)) (s : List Step) (rest : List (List Step)) (limit : ℕ) → k ≡ l ++ s ∷ rest → length k ≤ limit
    → length l ≡ limit → ⊥
too_long k l s rest limit e h j = omega (arith, ap length e, length-append l (s ∷ rest))

fronts : (k l x y : List (List Step)) → length k ≡ length l → k ++ x ≡ l ++ y → k ≡ l
fronts k l x y h e =
    sym (take_at k x (length k) refl) ∙ ap (take (length k)) e ∙ take_at l y (length k) (sym h)

pub same_beginning : (a b : List ℤ) {limit : ℕ} {k l : List (List Step)} {more more' : Bool} → Beginning a b limit k more → Beginning a b limit l more'
    → SameBeginning k l more more'
same_beginning a b (all x h) (all y j) = record { strips = listed_unique x y; remain = refl }
same_beginning a b {limit} {k} {l} (all x h) (some s rest y j) = absurd (too_long k l s rest limit (listed_unique x y) h j)
same_beginning a b {limit} {k} {l} (some s rest x h) (all y j) = absurd (too_long l k s rest limit (listed_unique y x) j h)
same_beginning a b {limit} {k} {l} (some s rest x h) (some t rest' y j) = record {
  strips = fronts k l (s ∷ rest) (t ∷ rest') (h ∙ sym j) (listed_unique x y);
  remain = refl;
}

module _ {a b : List ℤ} {limit : ℕ} {lines work : List ℕ} where
  pub list_unique : {r r' : Ran} {s s' w w' : List ℕ} → ListAnswer a b limit lines work s w r → ListAnswer a b limit lines work s' w' r'
      → Same r r' s s' w w'
  list_unique (Listing.ListAnswer.refused {r = r} x u) (Listing.ListAnswer.refused {r = q} y v) =
      untouched (ap Err (one_stop (list_gates a b limit lines work) (traces_single, (due_single, tt)) r q x y)) u v
  list_unique (Listing.ListAnswer.refused {r = r} x u) (listed p l b f c s g) = absurd (stopped_not_passed (list_gates a _ limit lines work) r x p)
  list_unique (listed p l b f c s g) (Listing.ListAnswer.refused {r = r} x u) = absurd (stopped_not_passed (list_gates a _ limit lines work) r x p)
  list_unique (listed p₁ l₁ b₁ f₁ c₁ s₁ g₁) (listed p₂ l₂ b₂ f₂ c₂ s₂ g₂) =
      let same = same_beginning a b b₁ b₂ in
      record {
        answer = lines_same (best_same g₁ g₂) (ap length same.strips) same.remain;
        strips = f₁ ∙ ap (λ (l : List (List Step)). lined l ++ drop (length l * strip_bytes a b) lines) same.strips ∙ sym f₂;
        works = cleared c₁ c₂;
      }
    where
      lines_same : {v v' : ℤ} {k k' : ℕ} {more more' : Bool} → v ≡ v' → k ≡ k' → more ≡ more' → run_of v k more ≡ run_of v' k' more'
      lines_same e f g = cc

-- ---- a refusal alters no lent byte

module _ {a b : List ℤ} {strip work s w : List ℕ} where
  pub best_refused_untouched : {r : Refusal} → BestAnswer a b strip work s w (Err r) → Untouched strip work s w
  best_refused_untouched (Answers.BestAnswer.refused x u) = u

  pub next_refused_untouched : {r : Refusal} → NextAnswer a b strip work s w (Err r) → Untouched strip work s w
  next_refused_untouched (Answers.NextAnswer.refused x u) = u

  pub list_refused_untouched : {limit : ℕ} {r : Refusal} → ListAnswer a b limit strip work s w (Err r) → Untouched strip work s w
  list_refused_untouched (Listing.ListAnswer.refused x u) = u
