pub mod TurnKeys
