-- 01's W of the steps that bytes say, for any two lists of points; 0 where the bytes are no strip between them.
use Rattle.std.specs.Prelude.{List, ℕ, ℤ, pos}
use Rattle.trace.specs.Points.{count}
use Rattle.strip.specs.Bytes.{IsStrip}
use Rattle.strip.specs.Worth.{W}

pub data Weighed (a b : List ℤ) (l : List ℕ) : ℤ → Type 0 where
  weight : (s : IsStrip (count a) (count b) l) → Weighed a b l (W a b s.steps)
  nothing : (IsStrip (count a) (count b) l → ⊥) → Weighed a b l (pos 0)
