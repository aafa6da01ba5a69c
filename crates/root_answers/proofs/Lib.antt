pub mod ReportOrder
pub mod ReportedFronts
pub mod PlannedVectors
pub mod WrittenEntries
