pub mod Told
pub mod Reading
pub mod History
pub mod Fronts
pub mod CertificateItems
pub mod Items
