pub mod FolderLaws
