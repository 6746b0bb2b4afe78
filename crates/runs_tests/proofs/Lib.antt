pub mod UnsettledRun
