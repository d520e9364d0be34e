mod Common
pub mod BoxValues
pub mod WordBytes
pub mod MixedTables
pub mod ColumnSums
pub mod Expansion
pub mod RoundKeys
pub mod InvColumns
pub mod InvSchedule
pub mod KeyRules
