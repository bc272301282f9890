pub mod NotifyFaults
pub mod ScanFaults
pub mod SourceErrors
pub mod Watched
