pub mod MonthHours
