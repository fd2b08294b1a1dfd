-- Inner: what the walk along a trace keeps. No public contract cites this file.
use Rattle.std.specs.Prelude.{◌≡◌, Bool, true, false, ◌&&◌, ◌||◌, List, ℕ, ◌+◌, ◌*◌, ℤ, pos, Result, ◌+ℤ◌, ◌-ℤ◌, ◌*ℤ◌}
use Rattle.whole.specs.Between.{Within}
use Rattle.whole.specs.Sum.{sum}
use Rattle.std.specs.Result.{MatchResult}
use Rattle.std.specs.Ordering.{int_eq}
use Rattle.whole.specs.Tests.{some}
use Rattle.fault.specs.declared.Fault.{Fault}
use Rattle.fault.specs.declared.Fault.TheVariants.{Range}
use Rattle.trace.specs.declared.Point.{Point}
use Rattle.trace.specs.declared.Walked.{Walked}
use Rattle.trace.specs.Points.{px, py, segment}
use Rattle.trace.specs.Judged.{in_range, out_at, twin_at}

-- both coordinates are in range
unfoldable pub inside : Point → Bool
inside p = in_range p.x && in_range p.y

unfoldable pub same_point : Point → Point → Bool
same_point p q = int_eq p.x q.x && int_eq p.y q.y

-- what one step more asks and does
pub record Ready (s : Walked) : Type 0 where
  pub inside : inside s.at ≡ true
  pub small : Within 10000000000000 s.area

pub record Stepped (s : Walked) (p : Point) (r : Walked) : Type 0 where
  pub at : r.at ≡ p
  pub area : r.area ≡ s.area +ℤ (s.at.x *ℤ p.y -ℤ s.at.y *ℤ p.x)
  pub twin : r.twin ≡ (s.twin || same_point s.at p)

-- RANGE, since p is out of range
abbrev pub Outside : Point → Fault → Type 0
Outside p f = (f ≡ Range) × (inside p ≡ false)

-- the walk begins at p
abbrev pub Begun : Point → Result Walked Fault → Type 0
Begun p r = MatchResult r (λ s. (inside p ≡ true) × (s ≡ record { at = p; area = pos 0; twin = false })) (Outside p)

-- the walk goes on from s to p
abbrev pub WalkedOn : Walked → Point → Result Walked Fault → Type 0
WalkedOn s p r = MatchResult r (λ t. (inside p ≡ true) × Stepped s p t) (Outside p)

-- the walk has come to point k of c
pub record Clear (c : List ℤ) (k : ℕ) (s : Walked) : Type 0 where
  pub at_x : s.at.x ≡ px c k
  pub at_y : s.at.y ≡ py c k
  pub area : s.area ≡ sum k (segment c)
  pub twin : s.twin ≡ some k (twin_at c)

-- and no number up to there is out of range
pub record Along (c : List ℤ) (k : ℕ) (s : Walked) : Type 0 where
  pub in_range : some (2 * k + 2) (out_at c) ≡ false
  pub clear : Clear c k s
