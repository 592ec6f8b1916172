pub mod PlanRecord
pub mod PlanRecordLaws
pub mod RecordTold
pub mod RecordToldLaws
