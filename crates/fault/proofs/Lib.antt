-- What holds of the refusals' numbers, and of their order.
pub mod GateLaws
pub mod Numbers
