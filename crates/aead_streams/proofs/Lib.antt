mod Common
pub mod HashSteps
pub mod TextHashing
pub mod GcmTexts
pub mod Absorbing
pub mod CcmPayloads
pub mod CcmTags
pub mod StreamLaws
pub mod StreamPlaces
pub mod HighFirst
pub mod ModeStreams
pub mod CcmStreams
pub mod Filling
