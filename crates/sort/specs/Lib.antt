pub mod Form
pub mod FormView
