pub mod KeyOrder
pub mod ReportData
pub mod Reports
pub mod DetailData
pub mod DetailMembers
pub mod Details
