-- The strip between two traces: the pair, the worth of a step, the value W, the bytes of a strip, judging one made elsewhere.
pub mod Pair
pub mod Worth
pub mod Bytes
pub mod Judging
pub mod Walk
pub mod Band
pub mod Outlines
pub mod Weighed
