pub mod ExprFirst
