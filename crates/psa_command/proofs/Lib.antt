mod Common
mod Quotas
mod Causes
mod Faults
mod Written
