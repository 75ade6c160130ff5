pub mod MonthByHours
