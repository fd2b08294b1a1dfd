-- Inner: what the walk along a strip keeps. No public contract cites this file.
use Rattle.std.specs.Prelude.{◌≡◌, List, [], ◌∷◌, ℕ, ◌+◌, ◌≤◌, ℤ, ◌+ℤ◌, Option, take}
use Rattle.std.specs.Option.{MatchOption}
use Rattle.whole.specs.Between.{Within}
use Rattle.ways.specs.Strip.{Step, A, B, steps_a, steps_b}
use Rattle.ways.specs.Value.{Worths}
use Rattle.trace.specs.Points.{count}
use Rattle.trace.specs.declared.outline.Outline.{Outline}
use Rattle.strip.specs.Outlines.{worths_of}
use Rattle.strip.specs.declared.walking.Walked.{Walked}
use Rattle.strip.specs.Worth.{W}
use Rattle.strip.specs.Bytes.{byte_of, bytes, IsStrip}

-- the worth of a step of either kind
abbrev pub worth_of : Worths → Step → ℕ → ℕ → ℤ
worth_of w A i j = w.worth_a i j
worth_of w B i j = w.worth_b i j

-- what one byte more asks: the walk is inside both outlines, and nothing in them or so far is too great
pub record Ready (p q : Outline) (s : Walked) : Type 0 where
  pub in_a : s.i ≤ p.count
  pub in_b : s.j ≤ q.count
  pub few_a : p.count ≤ 250
  pub few_b : q.count ≤ 250
  pub small : Within 20000000000000 s.value
  pub gains : (x : Step) → Within 40000000000 (worth_of (worths_of p q) x s.i s.j)

-- s has not yet all its steps of x's kind
pub record Room (p q : Outline) (x : Step) (s : Walked) : Type 0 where
  pub in_a : s.i + steps_a (x ∷ []) ≤ p.count
  pub in_b : s.j + steps_b (x ∷ []) ≤ q.count

-- from s by x to r
pub record By (p q : Outline) (x : Step) (s r : Walked) : Type 0 where
  pub room : Room p q x s
  pub i : r.i ≡ s.i + steps_a (x ∷ [])
  pub j : r.j ≡ s.j + steps_b (x ∷ [])
  pub value : r.value ≡ s.value +ℤ worth_of (worths_of p q) x s.i s.j

-- one byte more: it is a step that there is room for; or it is none
abbrev pub Stepped : Outline → Outline → Walked → ℕ → Option Walked → Type 0
Stepped p q s byte o =
    MatchOption o
    ((x : Step) → byte ≡ byte_of x → Room p q x s → ⊥)
    (λ r. (x : Step) × (byte ≡ byte_of x) × By p q x s r)

-- the first k bytes of l are steps, none too many of either kind, and s has counted them and added up their worths
pub record Alive (a b : List ℤ) (l : List ℕ) (k : ℕ) (s : Walked) : Type 0 where
  pub steps : List Step
  pub written : take k l ≡ bytes steps
  pub has_a : steps_a steps ≡ s.i
  pub has_b : steps_b steps ≡ s.j
  pub in_a : s.i ≤ count a
  pub in_b : s.j ≤ count b
  pub value : s.value ≡ W a b steps

-- .. or l is no strip
abbrev pub Along : List ℤ → List ℤ → List ℕ → ℕ → Option Walked → Type 0
Along a b l k o = MatchOption o (IsStrip (count a) (count b) l → ⊥) (Alive a b l k)
