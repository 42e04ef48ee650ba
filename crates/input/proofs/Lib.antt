pub mod LongerFile
