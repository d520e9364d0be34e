mod Common
pub mod BlockLaws
pub mod WayLaws
pub mod TextPlaces
pub mod Dues
pub mod RunningTexts
pub mod Beginnings
pub mod LastParts
pub mod Finishing
