pub mod LimitsCalls
