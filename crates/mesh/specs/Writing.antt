-- Inner: what the writers of the closed list ask and do. No public contract cites this file.
use Rattle.std.specs.Prelude.{◌≡◌, List, [], ◌∷◌, ℕ, ◌+◌, ◌≤◌, ◌<◌, length}
use Rattle.whole.specs.Filled.{Filled}
use Rattle.ways.specs.Strip.{steps_a, steps_b}
use Rattle.stack.specs.declared.Layer.{Layer}
use Rattle.stack.specs.Entries.{entry, stop}
use Rattle.stack.specs.Strips.{StripsRight}
use Rattle.mesh.specs.declared.writers.Pair.{Pair}
use Rattle.mesh.specs.declared.writers.Cap.{Cap}
use Rattle.mesh.specs.declared.writers.Cap.TheVariants.{Bottom, Top}
use Rattle.mesh.specs.Triangles.{Tri, turned, step_tri}
use Rattle.strip.specs.Bytes.{step_of}
use Rattle.mesh.specs.Closed.{ring, bottom_cap, top_cap, numbers}

-- what every writer does: its triangles at the front, and the rest as it was
pub record Put (ts : List Tri) (old new : List ℕ) : Type 0 where
  pub filled : Filled (numbers ts) old new

-- a layer with points, whose numbers fit 32 bits
pub record Numbered (e : Layer) : Type 0 where
  pub some : 0 < e.count
  pub few : stop e ≤ 5000

-- a triangle of the bottom cap or of the top cap: seen from below it runs the other way round
abbrev pub facing : Cap → Tri → Tri
facing Bottom t = turned t
facing Top t = t

-- the bottom cap or the top cap of a layer
abbrev pub cap_of : Cap → Layer → List Tri
cap_of Bottom e = bottom_cap e
cap_of Top e = top_cap e

-- a stack with its strips, of which the list can be written
pub record Drawn (es : List Layer) (l : List ℕ) : Type 0 where
  pub some : 0 < length es
  pub numbered : (k : ℕ) → k < length es → Numbered (entry es k)
  pub three : (k : ℕ) → k < length es → 3 ≤ (entry es k).count
  pub strips : StripsRight es l

-- what a step from the pair p asks
pub record StepReady (d e : Layer) (p : Pair) (byte : ℕ) (out : List ℕ) : Type 0 where
  pub lower : Numbered d
  pub upper : Numbered e
  pub in_a : p.i + steps_a (step_of byte ∷ []) ≤ d.count
  pub in_b : p.j + steps_b (step_of byte ∷ []) ≤ e.count
  pub room : 3 ≤ length out

-- and does, going on to the pair r
pub record Stepped (d e : Layer) (p : Pair) (byte : ℕ) (old new : List ℕ) (r : Pair) : Type 0 where
  pub triangle : Put (step_tri (ring d) (ring e) p.i p.j (step_of byte) ∷ []) old new
  pub i : r.i ≡ p.i + steps_a (step_of byte ∷ [])
  pub j : r.j ≡ p.j + steps_b (step_of byte ∷ [])
