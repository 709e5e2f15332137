pub mod Multiples
pub mod InverseCurves
pub mod Overcurrents
pub mod BackupEvents
pub mod BackupLines
pub mod BackupTexts
pub mod KeptElement
pub mod KeptBackup
