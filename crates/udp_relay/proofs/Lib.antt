mod Hosts
mod Rows
