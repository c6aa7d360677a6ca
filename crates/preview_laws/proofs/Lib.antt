pub mod PreviewedRows
