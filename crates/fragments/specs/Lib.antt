pub mod Mail
pub mod Record
pub mod Missing
pub mod Cuts
pub mod Texts
pub mod Reports
