pub mod CurveOf
