pub mod Awards
pub mod OnTheWay
