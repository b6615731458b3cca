pub mod Boundaries
pub mod Exclusive
pub mod OneFault
pub mod SameRows
pub mod Rows
pub mod Steps
pub mod There
pub mod PlanThere
