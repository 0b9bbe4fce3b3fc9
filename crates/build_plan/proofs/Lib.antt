pub mod ReachLemmas
pub mod PlainLemmas
pub mod PlanLemmas
pub mod LaterLemmas
