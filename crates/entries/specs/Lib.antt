-- 01, "Traces and layers": "A stack is a list of layer entries, each holding plane, first point and number of points, over one common
-- coordinate list." What it means to gather such a list, and to fill one.
pub mod Gathering
pub mod Scattered
