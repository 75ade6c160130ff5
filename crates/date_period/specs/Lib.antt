pub mod HourPeriod
