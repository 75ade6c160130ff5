pub mod FindHubMcc
